use Rattle.std.proofs.Common.{◌≡◌, ◌*◌, [], ◌∷◌, ◌++◌, length, ◌∙◌, ap, arith}
use Rattle.bit_addressing.specs.Typed.{row}
use Rattle.bit_boxed.proofs.boxed.BitBox.from_box.Goals as goal

pub returns : goal.returns
returns g c =
    let w = g.T.BitStore.BITS in
    let items : c.push.new.self.items ≡ c.args.word.value ∷ [] = c.in_ok-push.ensures.items ∙ ap (λ l. l ++ (c.into_inner-word.result ∷ [])) c.new-words.ensures.items ∙ ap (λ x. x ∷ []) c.into_inner-word.ensures in
    let size : w * length c.push.new.self.items ≡ w = ap (λ l. w * length l) items ∙ omega arith in
    record {
      words = c.of_words.ensures.words ∙ items;
      head = c.of_words.ensures.head;
      list = c.of_words.ensures.list ∙ ap (row g.T.BitStore g.O.BitOrder) items;
      len = c.of_words.ensures.len ∙ size;
      clean = c.of_words.ensures.clean;
    }
