use Rattle.std.proofs.Common.{◌≡◌, drop, length, take, ap, subst, rules, arith}
use Rattle.std.proofs.lemmas.List.{length-drop}
use Rattle.bit_streams.specs.Buffers.{bits_ahead}
use Rattle.bit_streams.specs.Streamed.{Stays}
use Rattle.bit_streams.proofs.Buffers.{chunk_held, front_begun, held_left}
use Rattle.bit_streams.proofs.buffer.BitBuffer.take_more.Goals as goal

pub returns-clause-rest : goal.returns-clause-rest
returns-clause-rest g c =
    let i = c.self.inside in
    let place = g.O.BitOrder.place in
    let old = g.R.Read.remaining i.inner in
    let new = g.R.Read.remaining c.take_chunk.new.inner in
    let now = c.take_chunk.new.bits.list in
    subst (λ v. Stays v.rest (bits_ahead place (drop i.passed now) new)) c.self.view_is (chunk_held place old new i.passed i.bits.list now c.self.invariant c.take_chunk.ensures.front c.take_chunk.ensures.taken)

pub returns-in-Err-clause-rest : goal.returns-in-Err-clause-rest
returns-in-Err-clause-rest g c =
    let i = c.self.inside in
    let place = g.O.BitOrder.place in
    let old = g.R.Read.remaining i.inner in
    let new = g.R.Read.remaining c.take_chunk.new.inner in
    let now = c.take_chunk.new.bits.list in
    subst (λ v. Stays v.rest (bits_ahead place (drop i.passed now) new)) c.self.view_is (chunk_held place old new i.passed i.bits.list now c.self.invariant c.take_chunk.ensures.front c.take_chunk.ensures.taken)

pub returns-clause-held : goal.returns-clause-held
returns-clause-held g c =
    let i = c.self.inside in
    let now = c.take_chunk.new.bits.list in
    subst (λ v. take (length v.held) (drop i.passed now) ≡ v.held) c.self.view_is (front_begun i.passed i.bits.list now c.self.invariant c.take_chunk.ensures.front)

pub returns-in-Err-clause-held : goal.returns-in-Err-clause-held
returns-in-Err-clause-held g c =
    let i = c.self.inside in
    let now = c.take_chunk.new.bits.list in
    subst (λ v. take (length v.held) (drop i.passed now) ≡ v.held) c.self.view_is (front_begun i.passed i.bits.list now c.self.invariant c.take_chunk.ensures.front)

pub returns-clause-count : goal.returns-clause-count
returns-clause-count g c =
    let i = c.self.inside in
    let now = c.take_chunk.new.bits.list in
    let before : length (drop i.passed i.bits.list) ≡ length c.args.self.now.held = ap (λ v. length v.held) c.self.view_is in
    let cut = length-drop i.passed i.bits.list in
    let left = length-drop i.passed now in
    let within = c.self.invariant in
    let count = c.in-Ok.ensures.count in
    omega arith

pub returns-clause-end : goal.returns-clause-end
returns-clause-end g c e =
    let i = c.self.inside in
    held_left g.O.BitOrder.place (g.R.Read.remaining c.take_chunk.new.inner) (drop i.passed c.take_chunk.new.bits.list) (c.take_chunk.ensures.end (search rules))
