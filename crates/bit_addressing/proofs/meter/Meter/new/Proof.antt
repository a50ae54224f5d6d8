use Rattle.std.proofs.Common.{[], ◌∷◌, refl}
use Rattle.std.proofs.raw_atomic.Walks.{proved}
use base.Fml.{ftrue}
use mir.Val.{Val, vstruct, vcons, vnil}
use types.Kit.{‵, ◌⊛◌, ◌$◌, ◌∵◌, !, qed, done, keep, use0, suffices, group}
use types.Run.{enter, no_more, and_then, returns}
use types.Part.{agg}
use types.ByLocal.{alloc_all, pass_all, free_all, look_at, get, sets}
use denote.Shadow.{makes_shadow}
use denote.Steps.{nothing}
use denote.Triple.Walked.{walk_of, says, ends_at}
use Rattle.bit_addressing.specs.contracts.meter.Meter.new as f
use Rattle.bit_addressing.specs.contracts.meter.Meter.{the_row as R}
use Rattle.bit_addressing.proofs.meter.Meter.new.Statement.{statement}
use Rattle.bit_addressing.proofs.meter.Meter.new.Code as code

pub new_spec : {M : Type 1} → statement M
new_spec 𝓤 𝓛 𝓜 𝓡 wired =
    let c = f.clauses 𝓛 𝓜.mem 𝓡.returns in
    let W = walk_of 𝓛 f.ended tt c in
    proved 𝓛 f.ended tt c 𝓜 𝓡 tt f.Key.name code.function (code.unfolded 𝓤 𝓛.H 𝓜 𝓡 wired)
    (λ κs. tt) (λ κs. tt) (λ κs qs bounds a _ are.
    let v : Val = vstruct (vcons (vstruct vnil) vnil) in
    let r : R.Denot = record { marker = record {}; reads = 0; writes = 0 } in
    let O = R.own_val r (v ∷ []) in
    let y : W.Ghost = ((κs, qs, bounds, a, tt), tt) in
    qed 𝓛 ((‵ ftrue ⊛ ‵ ftrue) ∷ ‵ ftrue ∷ []) ∵ keep ! [] $
    enter ! _ _ _ _ _ $ alloc_all ! (λ l. pass_all ! refl tt $
    sets ! (agg ! (no_more !)) refl (tt, tt) $ sets ! (agg ! (and_then ! (get ! refl) (no_more !))) refl (tt, (tt, tt)) $
    returns ! (look_at ! 0 refl) $ free_all ! refl $
    suffices ! _ (ends_at 𝓛 f.ended tt c y v r tt tt) $ says ! (refl, refl) $
    use0 𝓛 (‵ O) (makes_shadow 𝓛 O ((λ vss. (tt, ((λ uss. (tt, tt)), tt))), tt) (((vstruct vnil ∷ [], tt), (refl, ((tt, (refl, tt)), tt))), tt)) $
    nothing ! $ nothing ! $ group ! 3 $ done !))
