use Rattle.std.proofs.Common.{◌≡◌, ◌+◌, ◌*◌, ◌<◌, length, sym, ◌∙◌, ap, subst, arith, vec_capacity}
use Rattle.bit_addressing.proofs.Rows.{width_positive}
use Rattle.bit_addressing.proofs.lists.Sized.{room}
use Rattle.bit_containers.specs.BitVec.{bits_in}
use Rattle.bit_streams.proofs.Late.{length-written_row}
use Rattle.bit_streams.proofs.Lists.{room_made, room_short}
use Rattle.bit_streams.proofs.words.Words.make_room.Goals as goal

pub returns-clause-room : goal.returns-clause-room
returns-clause-room g c =
    let i = c.self.inside in
    let w = g.T.BitStore.BITS in
    let all : length c.args.self.now.list ≡ w * length i.words.items = ap (λ v. length v.list) (sym c.self.view_is) ∙ length-written_row g.T.BitStore g.O.BitOrder i.late i.words.items in
    let fits = c.requires in
    let same = ap length c.make_room_in_vec.ensures.items in
    let enough = room_made w (length i.words.items) c.elts.result (vec_capacity c.make_room_in_vec.new.words) c.args.n c.elts.ensures.room (let h = c.in-Ok.ensures.room in omega arith) in
    omega arith

pub returns-in-Err-clause-full : goal.returns-in-Err-clause-full
returns-in-Err-clause-full g c =
    let i = c.self.inside in
    let w = g.T.BitStore.BITS in
    let all : length c.args.self.now.list ≡ w * length i.words.items = ap (λ v. length v.list) (sym c.self.view_is) ∙ length-written_row g.T.BitStore g.O.BitOrder i.late i.words.items in
    let capacity : c.args.self.now.capacity ≡ bits_in w (vec_capacity i.words) 0 = ap (λ v. v.capacity) (sym c.self.view_is) in
    let least = subst (λ k. w * k < c.args.n + w) (sym c.elts.ensures.value) (room w c.args.n (width_positive w g.met.T.BitStore.width)).1 in
    let short = room_short w (length i.words.items) c.elts.result (vec_capacity i.words) c.args.n least c.in-Err.ensures.full in
    omega arith
