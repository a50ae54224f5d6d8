use Rattle.std.proofs.Common.{◌≡◌, ◌-◌, ◌++◌, [], ◌∷◌, MatchOption, Some, length, take, get_or, slice_get, sym, subst, ◌∙◌, ap, arith}
use Rattle.std.proofs.lemmas.Option.{slice_get-get_or, slice_get_past}
use Rattle.std.proofs.lemmas.List.{take_all}
use Rattle.bit_records.proofs.Numbers.{count_of, last_apart}
use Rattle.bit_records.proofs.records.Records.pop.Goals as goal

pub returns-then-self-eq0-clause-popped : goal.returns-then-self-eq0-clause-popped
returns-then-self-eq0-clause-popped g c =
    let i = c.self.inside in
    let inv = c.self.invariant in
    let len : i.len ≡ length c.args.self.now.list = sym (count_of i.width i.len i.bits.list inv.some inv.size) ∙ ap (λ r. length r.list) c.self.view_is in
    sym len ∙ c.if-self-eq0.true

pub returns-then-self-eq0-clause-value : goal.returns-then-self-eq0-clause-value
returns-then-self-eq0-clause-value g c =
    let i = c.self.inside in
    let inv = c.self.invariant in
    let now = c.args.self.now in
    let len : i.len ≡ length now.list = sym (count_of i.width i.len i.bits.list inv.some inv.size) ∙ ap (λ r. length r.list) c.self.view_is in
    sym (slice_get_past now.list (length now.list - 1) (omega arith))

pub returns-then-self-eq0-clause-list : goal.returns-then-self-eq0-clause-list
returns-then-self-eq0-clause-list g c =
    let i = c.self.inside in
    let inv = c.self.invariant in
    let now = c.args.self.now in
    let len : i.len ≡ length now.list = sym (count_of i.width i.len i.bits.list inv.some inv.size) ∙ ap (λ r. length r.list) c.self.view_is in
    sym (take_all (length now.list - 1) now.list (omega arith))

pub returns-clause-popped : goal.returns-clause-popped
returns-clause-popped g c =
    let i = c.self.inside in
    let inv = c.self.invariant in
    let now = c.args.self.now in
    let len : i.len ≡ length now.list = sym (count_of i.width i.len i.bits.list inv.some inv.size) ∙ ap (λ r. length r.list) c.self.view_is in
    let is : c.get-number.result ≡ Some (get_or now.list (i.len - 1) 0) = c.get-number.ensures.value ∙ slice_get-get_or now.list (i.len - 1) 0 (omega arith) in
    subst (λ r. MatchOption r (length now.list ≡ 0) (λ number. now.list ≡ c.truncate.new.self.list ++ number ∷ [])) (sym is)
    (last_apart now.list (i.len - 1) (omega arith) ∙ ap (λ l. l ++ get_or now.list (i.len - 1) 0 ∷ []) (sym c.truncate.ensures.list))

pub returns-clause-value : goal.returns-clause-value
returns-clause-value g c =
    let i = c.self.inside in
    let inv = c.self.invariant in
    let now = c.args.self.now in
    let len : i.len ≡ length now.list = sym (count_of i.width i.len i.bits.list inv.some inv.size) ∙ ap (λ r. length r.list) c.self.view_is in
    c.get-number.ensures.value ∙ ap (λ n. slice_get now.list (n - 1)) len

pub returns-clause-list : goal.returns-clause-list
returns-clause-list g c =
    let i = c.self.inside in
    let inv = c.self.invariant in
    let now = c.args.self.now in
    let len : i.len ≡ length now.list = sym (count_of i.width i.len i.bits.list inv.some inv.size) ∙ ap (λ r. length r.list) c.self.view_is in
    c.truncate.ensures.list ∙ ap (λ n. take (n - 1) now.list) len
