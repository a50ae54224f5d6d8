use Rattle.std.proofs.Common.{◌≡◌, ◌+◌, ◌-◌, Bool, List, [], ◌++◌, length, take, replicate, false, ◌∙◌, ap, arith}
use Rattle.std.specs.List.{splice}
use Rattle.bit_addressing.specs.Row.{put, moved}
use Rattle.bit_slice.specs.BitSlice.{list_of}
use Rattle.bit_containers.proofs.Removing.{spliced_short, spliced_long}
use Rattle.bit_containers.proofs.vec.BitVec.put_range.Goals as goal

pub returns-then-more-end-clause-list : goal.returns-then-more-end-clause-list
returns-then-more-end-clause-list g c =
    let old = c.args.self.now.list in
    let ys = list_of c.args.view in
    let start = c.args.start in
    let more = c.len-more.result in
    c.remove_range.ensures.list ∙ ap (λ l. splice l (start + more) c.args.end []) c.copy_into.ensures.list
    ∙ spliced_short old ys start c.args.end more (c.len-more.ensures.list) (omega (arith, c.if-more-end.true, c.requires.ordered)) c.requires.within

pub returns-clause-list : goal.returns-clause-list
returns-clause-list g c =
    let old = c.args.self.now.list in
    let ys = list_of c.args.view in
    let start = c.args.start in
    let end = c.args.end in
    let len = c.len-len.result in
    let more = c.len-more.result in
    let extra = more - (end - start) in
    let size : len ≡ length old = c.len-len.ensures.value in
    let longer : List Bool = take (len + extra) old ++ replicate (len + extra - length old) false in
    c.copy_into-2.ensures.list ∙ ap (λ l. put l start ys) (c.copy_within.ensures.list ∙ ap (λ l. moved l end (end + extra) (len - end)) c.in_ok-resize.ensures.list)
    ∙ ap (λ n. put (moved (take (n + extra) old ++ replicate (n + extra - length old) false) end (end + extra) (n - end)) start ys) size
    ∙ spliced_long old ys start end extra c.requires.ordered c.requires.within (omega (arith, c.len-more.ensures.list, c.if-more-end.false))
