-- What a contract sees of a `Drain`.
use Rattle.std.specs.Prelude.{◌≡◌, ℕ, ◌-◌, ◌≤◌, Bool, List, [], length, slice_range, Option}
use Rattle.std.specs.List.{splice}
use Rattle.std.specs.Borrow.{GName}
use Rattle.std.specs.Iterator.{YieldsFirst, YieldsLast, Yields}
use Rattle.bit_addressing.specs.declared.store.BitStore as store
use Rattle.bit_addressing.specs.declared.order.BitOrder as order
use Rattle.bit_containers.specs.declared.vec.drain.Drain.{Drain}

module _ {X Y : Type 0} {W : store.Ghosts X} {P : order.Ghosts Y} where
  -- the bits that are still to come
  abbrev pub drain_rest : Drain X Y W P → List Bool
  drain_rest d = slice_range d.vec.now.list d.front d.back

  -- how many they are
  abbrev pub drain_left : Drain X Y W P → ℕ
  drain_left d = d.back - d.front

  -- the bits that the vector has once the `Drain` ends
  abbrev pub drain_kept : Drain X Y W P → List Bool
  drain_kept d = splice d.vec.now.list d.start d.end []

  -- its head
  abbrev pub drain_head : Drain X Y W P → ℕ
  drain_head d = d.vec.now.head

  -- its capacity
  abbrev pub drain_capacity : Drain X Y W P → ℕ
  drain_capacity d = d.vec.now.capacity

  -- the ghost name of the reference to the vector
  abbrev pub drain_lender : Drain X Y W P → GName
  drain_lender d = d.vec.ghost_name

  -- both borrow the same vector, and leave it the same
  abbrev pub DrainKeeps : Drain X Y W P → Drain X Y W P → Type 0
  DrainKeeps old new = (drain_lender new ≡ drain_lender old) × (drain_kept new ≡ drain_kept old) × (drain_head new ≡ drain_head old) × (drain_capacity new ≡ drain_capacity old)

  -- the range lies in the vector
  abbrev pub DrainCanStep : Drain X Y W P → Type 0
  DrainCanStep d = d.end ≤ length d.vec.now.list

  -- a step at the front
  abbrev pub DrainSteps : Drain X Y W P → Option Bool → Drain X Y W P → Type 0
  DrainSteps old item new = YieldsFirst drain_rest old item new × DrainKeeps old new × DrainCanStep new

  -- a step at the back
  abbrev pub DrainStepsBack : Drain X Y W P → Option Bool → Drain X Y W P → Type 0
  DrainStepsBack old item new = YieldsLast drain_rest old item new × DrainKeeps old new × DrainCanStep new

  -- each state that steps at the front lead to keeps what the first keeps
  abbrev pub DrainKeepsAlong : Drain X Y W P → Type 0
  DrainKeepsAlong first = (items : List Bool) (later : Drain X Y W P) → Yields DrainSteps first items later → DrainKeeps first later
