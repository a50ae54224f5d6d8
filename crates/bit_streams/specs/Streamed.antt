-- Bits out of the bytes of a reader, and into those of a writer.
use Rattle.std.specs.Prelude.{◌≡◌, ℕ, ◌+◌, ◌-◌, ◌^◌, ◌%◌, ◌<◌, ◌≤◌, Bool, false, List, ◌++◌, ◌⊎◌, Option, None, Some, ⊤, refl}
use Rattle.std.specs.Option.{option_map}
use Rattle.std.specs.Coded.{Coded, code_by, coded×, coded_list, coded_ℕ, coded_bool, coded_option}
use Rattle.bit_addressing.specs.Row.{binary, row_of}

-- what contracts see of a source: the bits that are left, where they are known, how many of them were taken from its reader, and whether it takes more than a number needs
pub record Sourced : Type 0 where
  pub rest : Option (List Bool)
  pub held : ℕ
  pub buffered : Bool

-- such a value is stored as its parts
abbrev pub sourced_code : Coded Sourced
sourced_code = code_by (Option (List Bool) × (ℕ × Bool)) (coded× (coded_option (coded_list coded_bool)) (coded× coded_ℕ coded_bool)) (λ v. (v.rest, (v.held, v.buffered))) (λ p. record { rest = p.0; held = p.1.0; buffered = p.1.1 }) (λ _. refl)

-- the bits that are held as a number, and those of the bytes that are known to be left
abbrev pub bits_left : (ℕ → ℕ → ℕ) → ℕ → ℕ → Option (List ℕ) → Option (List Bool)
bits_left place held pending bytes = option_map (λ bs. binary held pending ++ row_of place 8 bs) bytes

-- what contracts see of bytes that are taken ahead: those that are left, where they are known, how many of them were taken from the reader, and whether more are taken than are asked for
pub record TakenBytes : Type 0 where
  pub left : Option (List ℕ)
  pub taken : ℕ
  pub buffered : Bool

-- such a value is stored as its parts
abbrev pub taken_code : Coded TakenBytes
taken_code = code_by (Option (List ℕ) × (ℕ × Bool)) (coded× (coded_option (coded_list coded_ℕ)) (coded× coded_ℕ coded_bool)) (λ v. (v.left, (v.taken, v.buffered))) (λ p. record { left = p.0; taken = p.1.0; buffered = p.1.1 }) (λ _. refl)

-- what always holds of them: at most 24 wait
pub record IsWaiting (at end : ℕ) : Type 0 where
  pub begins : at ≤ end
  pub within : end ≤ 24

-- what always holds of a source: its register has `count` digits, fewer than 64, and bytes are taken ahead only where it is buffered
pub record IsFilled (count pending taken : ℕ) (buffered : Bool) : Type 0 where
  pub few : count < 64
  pub small : pending < 2 ^ count
  pub exact : buffered ≡ false → taken ≡ 0

-- what always holds of a sink: fewer than 72 bits are held, as a number of `held` digits
pub record IsHeldBack (held pending : ℕ) : Type 0 where
  pub few : held < 72
  pub small : pending < 2 ^ held

-- known bytes lose the first, which have these bits
abbrev pub Loses : (ℕ → ℕ → ℕ) → Option (List ℕ) → Option (List ℕ) → List Bool → Type 0
Loses place None new bits = ⊤
Loses place (Some xs) None bits = ⊥
Loses place (Some xs) (Some ys) bits = row_of place 8 xs ≡ bits ++ row_of place 8 ys

-- known bytes are followed by more, which have these bits
abbrev pub Adds : (ℕ → ℕ → ℕ) → Option (List ℕ) → Option (List ℕ) → List Bool → Type 0
Adds place None new bits = ⊤
Adds place (Some xs) None bits = ⊥
Adds place (Some xs) (Some ys) bits = row_of place 8 ys ≡ row_of place 8 xs ++ bits

-- known bits stay
abbrev pub Stays : Option (List Bool) → Option (List Bool) → Type 0
Stays None new = ⊤
Stays (Some xs) None = ⊥
Stays (Some xs) (Some ys) = ys ≡ xs

-- known bits lose these from the front
abbrev pub Passes : Option (List Bool) → Option (List Bool) → List Bool → Type 0
Passes None new bits = ⊤
Passes (Some xs) None bits = ⊥
Passes (Some xs) (Some ys) bits = xs ≡ bits ++ ys

-- how many bits are held once n were read: bytes are taken whole, and no more of them than the number needs
abbrev pub held_after : ℕ → ℕ → ℕ
held_after n held = (held - n) + (8 - (n - held) % 8) % 8

-- what contracts see of a sink: the bits that were written, where they are known, how many of them its writer has not taken yet, and whether it holds whole bytes back
pub record Sunk : Type 0 where
  pub list : Option (List Bool)
  pub held : ℕ
  pub buffered : Bool

-- such a value is stored as its parts
abbrev pub sunk_code : Coded Sunk
sunk_code = code_by (Option (List Bool) × (ℕ × Bool)) (coded× (coded_option (coded_list coded_bool)) (coded× coded_ℕ coded_bool)) (λ v. (v.list, (v.held, v.buffered))) (λ p. record { list = p.0; held = p.1.0; buffered = p.1.1 }) (λ _. refl)

-- the bits of the bytes that are known to be held, and those of a number after them
abbrev pub bits_made : (ℕ → ℕ → ℕ) → ℕ → ℕ → Option (List ℕ) → Option (List Bool)
bits_made place held pending bytes = option_map (λ bs. row_of place 8 bs ++ binary held pending) bytes

-- known bits gain these at the end
abbrev pub Gains : Option (List Bool) → Option (List Bool) → List Bool → Type 0
Gains None new bits = ⊤
Gains (Some xs) None bits = ⊥
Gains (Some xs) (Some ys) bits = ys ≡ xs ++ bits

-- a sink as it was, or with the last byte filled up by these bits
abbrev pub MayFill : Sunk → Sunk → List Bool → Type 0
MayFill old new bits = (Stays old.list new.list × (new.held % 8 ≡ old.held % 8)) ⊎ (Gains old.list new.list bits × (new.held % 8 ≡ 0))
