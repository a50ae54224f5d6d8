-- What a contract sees of a Bloom filter.
use Rattle.std.specs.Prelude.{ℕ, Bool, List, refl}
use Rattle.std.specs.Coded.{Coded, code_by, coded×, coded_list, coded_bool, coded_ℕ}

-- its bits, and how many functions it has
pub record Filter : Type 0 where
  pub bits : List Bool
  pub functions : ℕ

-- a filter is stored as the pair of its parts
abbrev pub filter_code : Coded Filter
filter_code = code_by (List Bool × ℕ) (coded× (coded_list coded_bool) coded_ℕ) (λ f. (f.bits, f.functions)) (λ p. record { bits = p.0; functions = p.1 }) (λ _. refl)
