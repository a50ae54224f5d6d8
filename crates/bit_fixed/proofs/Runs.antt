-- Executions of commands, one command more.
use Rattle.std.proofs.Common.{◌≡◌, ℕ, ◌+◌, ◌<◌, List, Bool, [], ◌∷◌, ◌++◌, refl, ap, ◌∙◌, length, take, get_or}
use Rattle.std.proofs.lemmas.List.{take_more}
use Rattle.bit_fixed.specs.declared.machine.FixedCommand.{FixedCommand}
use Rattle.bit_fixed.specs.Machine.{list_after_one, reply_to, list_after, replies_of}

-- an execution goes on where another ended
list_after-append : (list : List Bool) (xs ys : List FixedCommand) → list_after list (xs ++ ys) ≡ list_after (list_after list xs) ys
list_after-append list [] ys = refl
list_after-append list (x ∷ xs) ys = list_after-append (list_after_one list x) xs ys

replies_of-append : (list : List Bool) (xs ys : List FixedCommand) → replies_of list (xs ++ ys) ≡ replies_of list xs ++ replies_of (list_after list xs) ys
replies_of-append list [] ys = refl
replies_of-append list (x ∷ xs) ys = ap (λ rs. reply_to list x ∷ rs) (replies_of-append (list_after_one list x) xs ys)

-- one command more
module _ (list : List Bool) (cs : List FixedCommand) (i : ℕ) (d : FixedCommand) (h : i < length cs) where
  -- the list after one command more is that after the command
  pub list_after-next : list_after list (take (i + 1) cs) ≡ list_after_one (list_after list (take i cs)) (get_or cs i d)
  list_after-next = ap (λ xs. list_after list xs) (take_more cs i d h) ∙ list_after-append list (take i cs) (get_or cs i d ∷ [])

  -- one command more adds its reply
  pub replies_of-next : replies_of list (take (i + 1) cs) ≡ replies_of list (take i cs) ++ reply_to (list_after list (take i cs)) (get_or cs i d) ∷ []
  replies_of-next = ap (λ xs. replies_of list xs) (take_more cs i d h) ∙ replies_of-append list (take i cs) (get_or cs i d ∷ [])
