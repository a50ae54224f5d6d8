-- Executions of commands, one after another.
use Rattle.std.proofs.Common.{◌≡◌, ℕ, ◌+◌, ◌<◌, ◌≤◌, List, Bool, [], ◌∷◌, ◌++◌, refl, ap, sym, subst, ◌∙◌, length, max, take, get_or}
use Rattle.std.proofs.Common.{inl, inr, arith}
use Rattle.std.proofs.lemmas.Option.{slice_get-get_or}
use Rattle.bit_addressing.specs.declared.errors.GrowError.{GrowError}
use Rattle.std.proofs.lemmas.List.{take_more}
use Rattle.bit_addressing.specs.declared.length.TheConstants.{MAX_BITS}
use Rattle.bit_containers.specs.declared.machine.Command.{Command}
use Rattle.bit_containers.specs.Machine.{list_after_one, reply_to, list_after, asked_room, room_after, replies_of, head_after_one, head_after, AllFit, new_length, IsRefusal, IsStopReason, CanWantMemory}

-- an execution goes on where another ended
pub list_after-append : (list : List Bool) (xs ys : List Command) → list_after list (xs ++ ys) ≡ list_after (list_after list xs) ys
list_after-append list [] ys = refl
list_after-append list (x ∷ xs) ys = list_after-append (list_after_one list x) xs ys

-- the head after two lists of commands is that after the second from the first's head
pub head_after-append : (head : ℕ) (xs ys : List Command) → head_after head (xs ++ ys) ≡ head_after (head_after head xs) ys
head_after-append head [] ys = refl
head_after-append head (x ∷ xs) ys = head_after-append (head_after_one head x) xs ys

-- the head after one command more is that after the command
pub head_after-next : (head : ℕ) (cs : List Command) (i : ℕ) (d : Command) → i < length cs → head_after head (take (i + 1) cs) ≡ head_after_one (head_after head (take i cs)) (get_or cs i d)
head_after-next head cs i d h = ap (λ xs. head_after head xs) (take_more cs i d h) ∙ head_after-append head (take i cs) (get_or cs i d ∷ [])

-- the replies to two lists of commands are those to the first and then to the second
pub replies_of-append : (list : List Bool) (xs ys : List Command) → replies_of list (xs ++ ys) ≡ replies_of list xs ++ replies_of (list_after list xs) ys
replies_of-append list [] ys = refl
replies_of-append list (x ∷ xs) ys = ap (λ rs. reply_to list x ∷ rs) (replies_of-append (list_after_one list x) xs ys)

-- two lists of commands fit where each fits from its start
pub AllFit-append : (list : List Bool) (xs ys : List Command) → AllFit list xs → AllFit (list_after list xs) ys → AllFit list (xs ++ ys)
AllFit-append list [] ys h k = k
AllFit-append list (x ∷ xs) ys h k = (h.0, AllFit-append (list_after_one list x) xs ys h.1 k)

-- the room after two lists of commands is that after the second from the first's room
pub room_after-append : (room : ℕ) (list : List Bool) (xs ys : List Command) → room_after room list (xs ++ ys) ≡ room_after (room_after room list xs) (list_after list xs) ys
room_after-append room list [] ys = refl
room_after-append room list (x ∷ xs) ys = room_after-append (max room (max (length (list_after_one list x)) (asked_room list x))) (list_after_one list x) xs ys

-- one command more
module _ (list : List Bool) (cs : List Command) (i : ℕ) (d : Command) (h : i < length cs) where
  -- the list after one command more is that after the command
  pub list_after-next : list_after list (take (i + 1) cs) ≡ list_after_one (list_after list (take i cs)) (get_or cs i d)
  list_after-next = ap (λ xs. list_after list xs) (take_more cs i d h) ∙ list_after-append list (take i cs) (get_or cs i d ∷ [])

  -- where there is room for the list after the command, and for what it asked for
  pub room_after-next : (room mid last : ℕ) (now later : List Bool) → now ≡ list_after list (take i cs) → later ≡ list_after_one now (get_or cs i d) → room_after room list (take i cs) ≤ mid → mid ≤ last → length later ≤ last → asked_room now (get_or cs i d) ≤ last → room_after room list (take (i + 1) cs) ≤ last
  room_after-next room mid last now later is then before kept fits asked =
      let next = ap (λ xs. room_after room list xs) (take_more cs i d h) ∙ room_after-append room list (take i cs) (get_or cs i d ∷ []) in
      let long : length (list_after_one (list_after list (take i cs)) (get_or cs i d)) ≤ last = rw (← is, ← then) fits in
      let want : asked_room (list_after list (take i cs)) (get_or cs i d) ≤ last = rw (← is) asked in
      rw next (omega (arith, long, want, before, kept))

  -- one command more adds its reply
  pub replies_of-next : replies_of list (take (i + 1) cs) ≡ replies_of list (take i cs) ++ reply_to (list_after list (take i cs)) (get_or cs i d) ∷ []
  replies_of-next = ap (λ xs. replies_of list xs) (take_more cs i d h) ∙ replies_of-append list (take i cs) (get_or cs i d ∷ [])

  -- one command more fits where its new length does
  pub AllFit-next : AllFit list (take i cs) → new_length (list_after list (take i cs)) (get_or cs i d) ≤ MAX_BITS → AllFit list (take (i + 1) cs)
  AllFit-next f n = subst (λ xs. AllFit list xs) (sym (take_more cs i d h)) (AllFit-append list (take i cs) (get_or cs i d ∷ []) f (n, tt))

-- an execution stopped before a command that was refused, with the list as it was before it
pub stopped_at : (old new : List Bool) (cs : List Command) (i : ℕ) (d : Command) (why : GrowError) → i < length cs → new ≡ old → IsRefusal old (get_or cs i d) why → IsStopReason new cs i why
stopped_at old new cs i d why h same r = inl (get_or cs i d, slice_get-get_or cs i d h, subst (λ list. IsRefusal list (get_or cs i d) why) (sym same) r)

-- memory that may be refused at a capacity may be refused at a smaller one
pub wants_before : (less more : ℕ) (list : List Bool) (command : Command) → less ≤ more → CanWantMemory more list command → CanWantMemory less list command
wants_before less more list command h wants = elim wants [
  | inl longer ↦ inl (omega arith)
  | inr own ↦ inr own
]
