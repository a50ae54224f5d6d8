use Rattle.std.proofs.Common.{◌≡◌, ◌+◌, ◌-◌, ◌≤◌, ◌++◌, length, replicate, take, sym, ◌∙◌, ap, subst, arith, rules}
use Rattle.std.proofs.Common.{vec_capacity}
use Rattle.std.proofs.lemmas.List.{length-replicate, take_all}
use Rattle.std.proofs.lemmas.Result.{err_from_is_err_and}
use Rattle.bit_addressing.specs.Row.{put, sized}
use Rattle.bit_addressing.specs.Typed.{row}
use Rattle.bit_addressing.proofs.lists.Shown.{resized_shows}
use Rattle.bit_addressing.proofs.Rows.{width_positive}
use Rattle.bit_slice.proofs.Parts.{shown_length}
use Rattle.bit_containers.proofs.Vectors.{kept, shown, no_room_for, same_room}
use Rattle.bit_containers.proofs.Clean.{clean_grown}
use Rattle.bit_containers.proofs.Elements.{exactly, more_room}
use Rattle.bit_containers.proofs.vec.BitVec.resize.Goals as goal

pub returns-in_err-append_run_in_vec-clause-refusal : goal.returns-in_err-append_run_in_vec-clause-refusal
returns-in_err-append_run_in_vec-clause-refusal g c =
    let i = c.self.inside in
    let w = g.T.BitStore.BITS in
    let least : length i.words.items ≤ vec_capacity i.words = search rules in
    let p = err_from_is_err_and c.from_residual.result c.from_residual.ensures.1 in
    rw (p.1, p.2, ← c.self.view_is) (record {
      too_long = ((λ e. cc), (λ h. absurd (omega arith)));
      memory = λ _. no_room_for w (length i.words.items) (vec_capacity i.words) i.head i.len c.args.n (width_positive w g.met.T.BitStore.width) c.self.invariant least (omega arith) c.in_err-append_run_in_vec.ensures.full;
      unchanged = kept g.T.BitStore g.O.BitOrder i.words.items c.append_run_in_vec.new.words.items i.head i.len _ _ c.in_err-append_run_in_vec.ensures.unchanged;
    })

pub returns-clause-list : goal.returns-clause-list
returns-clause-list g c =
    let i = c.self.inside in
    let w = g.T.BitStore.BITS in
    let fits = shown g.T.BitStore g.O.BitOrder i.words.items i.head i.len g.met.T.BitStore.width c.self.invariant in
    rw (← c.self.view_is, c.self.invariant.shows, c.in_ok-append_run_in_vec.ensures.bits)
    (resized_shows w (row g.T.BitStore g.O.BitOrder i.words.items) i.head i.len c.args.n c.args.bit (width_positive w g.met.T.BitStore.width) fits (omega arith))

pub returns-clause-grew : goal.returns-clause-grew
returns-clause-grew g c longer =
    let i = c.self.inside in
    let now = c.args.self.now in
    let w = g.T.BitStore.BITS in
    let len : i.len ≡ length now.list = sym c.self.invariant.shows ∙ ap (λ v. length v.list) c.self.view_is in
    let head : i.head ≡ now.head = ap (λ v. v.head) c.self.view_is in
    let old = row g.T.BitStore g.O.BitOrder i.words.items in
    let n = c.args.n in
    let ys = replicate (n - length now.list) c.args.bit in
    let size : length ys ≡ n - length now.list = length-replicate (n - length now.list) c.args.bit in
    let upto : now.head + n ≡ now.head + length now.list + length ys = omega arith in
    let whole : n ≡ length now.list + length ys = omega arith in
    let more : i.head + n - (i.head + i.len) ≡ n - length now.list = omega arith in
    record {
      head = head;
      len = shown_length g.T.BitStore g.O.BitOrder c.append_run_in_vec.new.words.items i.head n c.in_ok-append_run_in_vec.ensures.room ∙ whole;
      row = c.in_ok-append_run_in_vec.ensures.bits
          ∙ ap (λ m. put (sized w old (i.head + n)) (i.head + i.len) (replicate m c.args.bit)) more
          ∙ ap (λ v. put (sized w v.row (v.head + n)) (v.head + i.len) ys) c.self.view_is
          ∙ ap (λ m. put (sized w now.row (now.head + n)) (now.head + m) ys) len
          ∙ ap (λ e. put (sized w now.row e) (now.head + length now.list) ys) upto;
    }

pub returns-clause-clean : goal.returns-clause-clean
returns-clause-clean g c longer clean =
    let i = c.self.inside in
    let now = c.args.self.now in
    let grew = returns-clause-grew g c longer in
    let whole : take c.args.n now.list ≡ now.list = take_all c.args.n now.list (omega arith) in
    clean_grown g.T.BitStore.BITS now _ (replicate (c.args.n - length now.list) c.args.bit) (width_positive g.T.BitStore.BITS g.met.T.BitStore.width) grew.head
    (returns-clause-list g c ∙ ap (λ l. l ++ replicate (c.args.n - length now.list) c.args.bit) whole) grew.row clean

pub returns-in_err-append_run_in_vec-clause-capacity : goal.returns-in_err-append_run_in_vec-clause-capacity
returns-in_err-append_run_in_vec-clause-capacity g c = rw (← c.self.view_is) (more_room g.T.BitStore.BITS _ _ c.self.inside.head c.append_run_in_vec.ensures.capacity)

pub returns-clause-capacity : goal.returns-clause-capacity
returns-clause-capacity g c = rw (← c.self.view_is) (more_room g.T.BitStore.BITS _ _ c.self.inside.head c.append_run_in_vec.ensures.capacity)

pub invariant_of-self-2 : goal.invariant_of-self-2
invariant_of-self-2 g c = exactly g.T.BitStore g.O.BitOrder c.append_run_in_vec.new.words.items c.self.inside.head c.args.n g.met.T.BitStore.width c.self.invariant.head_below (omega (arith, c.if-n-gt-MAX_BITS.false)) c.in_ok-append_run_in_vec.ensures.size

pub returns-clause-len : goal.returns-clause-len
returns-clause-len g c = shown_length g.T.BitStore g.O.BitOrder c.append_run_in_vec.new.words.items c.self.inside.head c.args.n c.in_ok-append_run_in_vec.ensures.room

pub returns-in_err-append_run_in_vec-clause-no_memory : goal.returns-in_err-append_run_in_vec-clause-no_memory
returns-in_err-append_run_in_vec-clause-no_memory g c h =
    let i = c.self.inside in
    let w = g.T.BitStore.BITS in
    let least : length i.words.items ≤ vec_capacity i.words = search rules in
    let few = subst (λ v. c.args.n ≤ v.capacity) (sym c.self.view_is) h in
    same_room w (length i.words.items) (vec_capacity i.words) (vec_capacity c.append_run_in_vec.new.words) i.head i.len (c.args.n) (width_positive w g.met.T.BitStore.width) c.self.invariant least (omega arith) c.append_run_in_vec.ensures.no_memory (omega (arith, few))
    ∙ ap (λ v. v.capacity) c.self.view_is

pub returns-clause-no_memory : goal.returns-clause-no_memory
returns-clause-no_memory g c h =
    let i = c.self.inside in
    let w = g.T.BitStore.BITS in
    let least : length i.words.items ≤ vec_capacity i.words = search rules in
    let few = subst (λ v. c.args.n ≤ v.capacity) (sym c.self.view_is) h in
    same_room w (length i.words.items) (vec_capacity i.words) (vec_capacity c.append_run_in_vec.new.words) i.head i.len (c.args.n) (width_positive w g.met.T.BitStore.width) c.self.invariant least (omega arith) c.append_run_in_vec.ensures.no_memory (omega (arith, few))
    ∙ ap (λ v. v.capacity) c.self.view_is
