-- What a contract sees of an iterator that owns a box's words, and what calls do to it.
use Rattle.std.specs.Prelude.{◌≡◌, ℕ, ◌+◌, Bool, List, Option, length, refl}
use Rattle.std.specs.Iterator.{YieldsFirst, YieldsLast}
use Rattle.std.specs.Coded.{Coded, code_by, coded×, coded_list, coded_ℕ, coded_bool}
use Rattle.bit_addressing.specs.declared.store.BitStore as store
use Rattle.bit_addressing.specs.declared.order.BitOrder as order
use Rattle.bit_addressing.specs.Typed.{row}
use Rattle.bit_slice.specs.Clean.{IsCopiedRow}

-- all words that it owns; where the bits that are left begin in their row; the bits that are left
pub record Left (X : Type 0) : Type 0 where
  pub words : List X
  pub head : ℕ
  pub list : List Bool

-- such a value is stored as its parts
abbrev pub left_code : {X : Type 0} → Coded X → Coded (Left X)
left_code {X} c =
    code_by (List X × (ℕ × List Bool)) (coded× (coded_list c) (coded× coded_ℕ (coded_list coded_bool))) (λ v. (v.words, (v.head, v.list))) (λ p. record { words = p.0; head = p.1.0; list = p.1.1 }) (λ _. refl)

-- the bits that are left
abbrev pub rest_of : {X : Type 0} → Left X → List Bool
rest_of bits = bits.list

-- a call that gives the first bit that is left: the words stay, and the bits that are left end where they did
abbrev pub first_left : {X : Type 0} → Left X → Option Bool → Left X → Type 0
first_left s r t = YieldsFirst rest_of s r t × (t.words ≡ s.words) × (t.head + length t.list ≡ s.head + length s.list)

-- a call that gives the last: the words stay, and the bits that are left begin where they did
abbrev pub last_left : {X : Type 0} → Left X → Option Bool → Left X → Type 0
last_left s r t = YieldsLast rest_of s r t × (t.words ≡ s.words) × (t.head ≡ s.head)

-- A copy: the same bits, from head 0 on, and each bit after them is false.
abbrev pub IsCopy : {X Y : Type 0} → store.Ghosts X → order.Ghosts Y → Left X → Left X → Type 0
IsCopy W P old new = IsCopiedRow W.BITS old.list new.head (row W P new.words) new.list
