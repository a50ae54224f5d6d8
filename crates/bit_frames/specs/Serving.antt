-- Requests to a map of frames, served one after another.
use Rattle.std.specs.Prelude.{◌≡◌, ℕ, ◌+◌, ◌<◌, ◌≤◌, ◌⊎◌, Bool, true, false, List, [], ◌∷◌, Some, length, replicate, slice_get}
use Rattle.bit_addressing.specs.Row.{put}
use Rattle.bit_frames.specs.FreeMap.{AreFree, AreTaken, IsFirstRun}
use Rattle.bit_frames.specs.declared.free_map.serving.Request.{Request}
use Rattle.bit_frames.specs.declared.free_map.serving.Request.TheVariants.{Take, GiveBack}
use Rattle.bit_frames.specs.declared.free_map.serving.Reply.{Reply}
use Rattle.bit_frames.specs.declared.free_map.serving.Reply.TheVariants.{Taken, GivenBack, Refused}

-- a map, a request, the reply to it, and the map afterwards
abbrev pub IsServed : List Bool → Request → Reply → List Bool → Type 0
IsServed old (Take count) (Taken first) new = (0 < count) × IsFirstRun old count first × (new ≡ put old first (replicate count true))
IsServed old (Take count) GivenBack new = ⊥
IsServed old (Take count) Refused new = ((count ≡ 0) ⊎ ((k : ℕ) → AreFree old count k → ⊥)) × (new ≡ old)
IsServed old (GiveBack first count) (Taken k) new = ⊥
IsServed old (GiveBack first count) GivenBack new = (first + count ≤ length old) × AreTaken old count first × (new ≡ put old first (replicate count false))
IsServed old (GiveBack first count) Refused new = ((length old < first + count) ⊎ (AreTaken old count first → ⊥)) × (new ≡ old)

-- a map, requests, the reply to each, and the map after all of them
unfoldable pub HaveServed : List Bool → List Request → List Reply → List Bool → Type 0
HaveServed old [] [] new = new ≡ old
HaveServed old [] (r ∷ rs) new = ⊥
HaveServed old (q ∷ qs) [] new = ⊥
HaveServed old (q ∷ qs) (r ∷ rs) new = (next : List Bool) × IsServed old q r next × HaveServed next qs rs new

-- a request was served by taking this frame
abbrev pub HandsOut : Request → Reply → ℕ → Type 0
HandsOut (Take count) (Taken first) frame = (first ≤ frame) × (frame < first + count)
HandsOut (Take count) GivenBack frame = ⊥
HandsOut (Take count) Refused frame = ⊥
HandsOut (GiveBack first count) r frame = ⊥

-- a request was served by giving this frame back
abbrev pub TakesBack : Request → Reply → ℕ → Type 0
TakesBack (Take count) r frame = ⊥
TakesBack (GiveBack first count) (Taken k) frame = ⊥
TakesBack (GiveBack first count) GivenBack frame = (first ≤ frame) × (frame < first + count)
TakesBack (GiveBack first count) Refused frame = ⊥

-- request number i was served in this way, with regard to a frame
abbrev pub At : (Request → Reply → ℕ → Type 0) → List Request → List Reply → ℕ → ℕ → Type 0
At does requests replies i frame = (q : Request) × ((r : Reply) × ((slice_get requests i ≡ Some q) × (slice_get replies i ≡ Some r) × does q r frame))

-- where two requests take one frame, a request between them gives it back: it cannot be that none does
abbrev pub IsNeverTwice : List Request → List Reply → Type 0
IsNeverTwice requests replies = (i j frame : ℕ) → i < j → At HandsOut requests replies i frame → At HandsOut requests replies j frame → ((k : ℕ) → i < k → k < j → At TakesBack requests replies k frame → ⊥) → ⊥
