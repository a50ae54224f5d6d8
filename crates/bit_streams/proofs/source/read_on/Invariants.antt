use Rattle.std.proofs.Common.{◌≡◌, ◌+◌, ◌*◌, ◌%◌, ◌^◌, ◌<◌, ◌≤◌, false}
use Rattle.bit_streams.specs.Streamed.{Stays, bits_left}
use Rattle.bit_streams.proofs.source.read_on.Given as goal

abbrev pub invariant-loop : goal.invariant-loop
invariant-loop g l = record {
  rest : Stays (bits_left g.O.BitOrder.place l.fn.count l.fn.pending l.fn.inner.left) (bits_left g.O.BitOrder.place l.count l.pending l.inner.left);
  need : l.count < l.fn.n;
  small : l.pending < 2 ^ l.count;
  on : l.counter * 8 ≤ l.count;
  even : l.count % 8 ≡ l.fn.count % 8;
  exact : l.fn.inner.buffered ≡ false → l.fn.inner.taken ≡ 0 → l.inner.taken ≡ 0;
  ahead : l.fn.n ≤ l.fn.count + 8 * l.fn.inner.taken → l.count + 8 * l.inner.taken ≡ l.fn.count + 8 * l.fn.inner.taken;
  buffered : l.inner.buffered ≡ l.fn.inner.buffered;
}
