use Rattle.std.proofs.Common.{◌≡◌, ◌+◌, ◌++◌, length, sym, ◌∙◌, ap, arith}
use Rattle.bit_addressing.specs.Row.{binary}
use Rattle.bit_streams.proofs.Lists.{not_refused, refused_memory, written_length}
use Rattle.bit_streams.proofs.blocks.Blocks.reserve.Goals as goal

pub returns-clause-room : goal.returns-clause-room
returns-clause-room g c =
    let i = c.self.inside in
    let all : length c.args.self.now.list ≡ length i.words.list + i.count = ap (λ v. length v.list) (sym c.self.view_is) ∙ written_length i.words.list i.count i.pending in
    let enough = c.in-Ok.ensures.room in
    omega arith

pub returns-clause-refusal : goal.returns-clause-refusal
returns-clause-refusal g c =
    let few = c.if-n-len.false in
    let long = c.len-len.ensures.value in
    let most = c.len-len.ensures.few in
    not_refused (length c.args.self.now.list + c.args.n) c.args.self.now _ (omega arith)

pub returns-in-Err-clause-refusal : goal.returns-in-Err-clause-refusal
returns-in-Err-clause-refusal g c =
    let i = c.self.inside in
    let all : length c.args.self.now.list ≡ length i.words.list + i.count = ap (λ v. length v.list) (sym c.self.view_is) ∙ written_length i.words.list i.count i.pending in
    let few = c.if-n-len.false in
    let long = c.len-len.ensures.value in
    let most = c.len-len.ensures.few in
    let capacity : c.args.self.now.capacity ≡ i.words.capacity = ap (λ v. v.capacity) (sym c.self.view_is) in
    let short = c.in-Err.ensures.full in
    refused_memory (length c.args.self.now.list + c.args.n) c.args.self.now _ (omega arith) (omega arith)
    (ap (λ l. l ++ binary i.count i.pending) c.make_room.ensures.list ∙ ap (λ v. v.list) c.self.view_is)

pub make_room-requires : goal.make_room-requires
make_room-requires g c =
    let i = c.self.inside in
    let all : length c.args.self.now.list ≡ length i.words.list + i.count = ap (λ v. length v.list) (sym c.self.view_is) ∙ written_length i.words.list i.count i.pending in
    let few = c.if-n-len.false in
    let long = c.len-len.ensures.value in
    let most = c.len-len.ensures.few in
    omega arith
