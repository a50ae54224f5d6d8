-- What a call pulled out of something that becomes an iterator.
use Rattle.std.specs.Prelude.{List, Option}
use Rattle.std.specs.Iterator.{Drains, Yields}
use Rattle.std.specs.Iterator.Runs.{WholeRun}

module _ {U S A : Type 0} (becomes : U → S → Type 0) (steps : S → Option A → S → Type 0) (iter : U) where
  -- it gave items, of which P holds, and then its first `None`
  abbrev pub GivesAll : (List A → Type 0) → Type 0
  GivesAll P = (it : S) × (items : List A) × becomes iter it × Drains steps it items × P items

  -- before its first `None` it gave items of which P holds; more may have come after them
  abbrev pub GivesFirst : (List A → Type 0) → Type 0
  GivesFirst P = (it : S) × (items : List A) × (rest : S) × becomes iter it × Yields steps it items rest × P items

  -- P holds of the items of a whole run
  abbrev pub RunsThrough : (List A → Type 0) → Type 0
  RunsThrough P = (it : S) × becomes iter it × WholeRun steps it (λ p. P p.items)
