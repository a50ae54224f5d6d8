-- What a contract sees of a container whose list has a head, a box or a vector, and what writes do to it.
use Rattle.std.specs.Prelude.{◌≡◌, ℕ, ◌+◌, ◌-◌, ◌*◌, ◌^◌, Bool, List, length, min, slice_range, refl}
use Rattle.std.specs.Coded.{Coded, code_by, coded×, coded_list, coded_ℕ, coded_bool}
use Rattle.std.specs.List.{refill}
use Rattle.bit_addressing.specs.declared.store.BitStore as store
use Rattle.bit_addressing.specs.declared.order.BitOrder as order
use Rattle.bit_addressing.specs.Typed.{row as row_of}
use Rattle.bit_slice.specs.Clean.{IsCleanRow, IsCopiedRow}

-- its words; their row; where the list begins in the row; the list; how many bits fit without new memory
pub record Held (X : Type 0) : Type 0 where
  pub words : List X
  pub row : List Bool
  pub head : ℕ
  pub list : List Bool
  pub capacity : ℕ

-- such a value is stored as its parts
abbrev pub held_code : {X : Type 0} → Coded X → Coded (Held X)
held_code {X} c =
    code_by (List X × (List Bool × (ℕ × (List Bool × ℕ)))) (coded× (coded_list c) (coded× (coded_list coded_bool) (coded× coded_ℕ (coded× (coded_list coded_bool) coded_ℕ)))) (λ v. (v.words, (v.row, (v.head, (v.list, v.capacity))))) (λ p. record { words = p.0; row = p.1.0; head = p.1.1.0; list = p.1.1.1.0; capacity = p.1.1.1.1 }) (λ _. refl)

-- how many bits fit into `words` words of w bits after the head; where their number passes the largest usize, that less the head
abbrev pub bits_in : ℕ → ℕ → ℕ → ℕ
bits_in w words head = min (w * words) (2 ^ 64 - 1) - head

-- Bits were written over: the same part of a row of the same length is shown.
pub record Stayed {X : Type 0} (old new : Held X) : Type 0 where
  pub head : new.head ≡ old.head
  pub len : length new.list ≡ length old.list
  pub size : length new.words ≡ length old.words
  pub capacity : new.capacity ≡ old.capacity

-- The head is 0 and each dead bit is false: the row is the list and then false.
abbrev pub IsClean : {X : Type 0} → ℕ → Held X → Type 0
IsClean w v = IsCleanRow w v.head v.row v.list

-- A copy: the same list, from head 0 on, and each dead bit is false.
abbrev pub IsCopy : {X : Type 0} → ℕ → Held X → Held X → Type 0
IsCopy w old new = IsCopiedRow w old.list new.head new.row new.list

-- the container with other words, as many; its list is that part of their row, and `refill` shows that it is as long as before
abbrev pub with_words : {X Y : Type 0} → store.Ghosts X → order.Ghosts Y → Held X → List X → Held X
with_words W P v ws =
    record { words = refill (length v.words) v.words ws; row = row_of W P (refill (length v.words) v.words ws); head = v.head; list = refill (length v.list) v.list (slice_range (row_of W P (refill (length v.words) v.words ws)) v.head (v.head + length v.list)); capacity = v.capacity }
