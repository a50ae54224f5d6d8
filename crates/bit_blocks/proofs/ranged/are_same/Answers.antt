use Rattle.std.proofs.Common.{◌≡◌, ◌&&◌, nat_eq, refl, sym, ◌∙◌, ap}
use Rattle.std.specs.Bool.{Decides}
use Rattle.std.proofs.lemmas.Bool.Decides.{Decides-and, Decides-eqb}
use Rattle.std.proofs.lemmas.Slice.Eq.{slice_eq-Decides}
use Rattle.bit_blocks.specs.declared.ranged.Run.{Run}
use Rattle.bit_blocks.specs.Runs.{run_numbers}
use Rattle.bit_blocks.proofs.Joined.{are_runs_of}
use Rattle.bit_blocks.proofs.ranged.are_same.Goals as goal

same_run : (r o : Run) → Decides (nat_eq r.first o.first && nat_eq r.last o.last) (r ≡ o)
same_run r o =
    let parts = Decides-and (nat_eq r.first o.first) (nat_eq r.last o.last) (Decides-eqb r.first o.first) (Decides-eqb r.last o.last) in (
      λ told. let both = parts.0 told in ap (λ k. record { first = k; last = r.last }) both.0 ∙ ap (λ k. record { first = o.first; last = k }) both.1,
      λ same. parts.1 (ap (λ q. q.first) same, ap (λ q. q.last) same),
    )

pub returns : goal.returns
returns c =
    let xs = c.args.runs.now in
    let ys = c.args.others.now in
    let told = slice_eq-Decides same_run xs ys c.eq.result c.eq.ensures in (
      λ same. ap run_numbers (told.0 same),
      λ same. told.1 (are_runs_of (run_numbers ys) xs c.requires.left same ∙ sym (are_runs_of (run_numbers ys) ys c.requires.right refl)),
    )
