use Rattle.std.proofs.Common.{◌≡◌, ℕ, true, sym, ◌∙◌, ap, subst, rules}
use Rattle.std.specs.List.{filter}
use Rattle.std.proofs.lemmas.Fn.{filter_same}
use Rattle.bit_blocks.specs.Form.{numbers_of}
use Rattle.bit_blocks.specs.Numbers.{Ascends, has}
use Rattle.bit_blocks.specs.Operation.{made_by}
use Rattle.bit_blocks.proofs.Forms.{listed_kept}
use Rattle.bit_blocks.proofs.Ranges.{ascends_filter, combines_kept}
use Rattle.bit_blocks.proofs.form.filtered_list.Goals as goal
use Rattle.bit_blocks.proofs.form.filtered_list.Goals.{After-give_back}

is_kept : (c : After-give_back) → c.give_back.new.items.items ≡ filter (λ k. made_by c.args.operation true (has (numbers_of c.args.form.now) k)) c.args.numbers.now
is_kept c =
    let test = λ (k : ℕ). made_by c.args.operation true (has (numbers_of c.args.form.now) k) in
    c.give_back.ensures.same ∙ filter_same _ test _ (λ x b q k. (search rules, search rules)) c.in_ok-kept.kept.items c.retain.new.self.items c.retain.ensures.filtered ∙ ap (filter test) c.in_ok-kept.ensures

pub returns-clause-members : goal.returns-clause-members
returns-clause-members c = combines_kept c.args.operation c.args.numbers.now (numbers_of c.args.form.now) c.give_back.new.items.items c.requires.drops (is_kept c)

pub returns-clause-form : goal.returns-clause-form
returns-clause-form c =
    let test = λ (k : ℕ). made_by c.args.operation true (has (numbers_of c.args.form.now) k) in
    let up = subst Ascends (sym (is_kept c)) (ascends_filter test 0 65536 c.args.numbers.now c.requires.numbers.ascends) in
    listed_kept c.args.operation c.args.numbers.now (numbers_of c.args.form.now) c.give_back.new.items.items c.requires.numbers up c.requires.drops
    (combines_kept c.args.operation c.args.numbers.now (numbers_of c.args.form.now) c.give_back.new.items.items c.requires.drops (is_kept c))
