-- The sentences of a layer's codes, one after the other.
use Rattle.std.proofs.Common.{◌≡◌, ℕ, suc, ◌+◌, List, [], ◌++◌, refl, subst, arith}
use Rattle.std.proofs.KnownBytes.{Appends-nil, Appends-trans}
use Rattle.std.specs.Prelude.{Option}
use Rattle.std.specs.Io.KnownBytes.{Appends}
use Rattle.refusals.specs.declared.layers.Layer.{Layer}
use Rattle.refusals.specs.Texts.{IsSentence, PrintsSentences}

-- before the first number nothing is printed
pub no_sentence : (layer : Layer) (out : Option (List ℕ)) → PrintsSentences layer 0 out out
no_sentence layer out = ([], refl, Appends-nil out)

-- the sentence of the next number
pub one_sentence : (layer : Layer) (number : ℕ) (start before after : Option (List ℕ)) → PrintsSentences layer number start before
    → ((text : List ℕ) × IsSentence layer number text × Appends before after text) → PrintsSentences layer (number + 1) start after
one_sentence layer number start before after (text, are, begun) (sentence, is, more) =
    let next : suc number ≡ number + 1 = omega (arith) in
    subst (λ n. PrintsSentences layer n start after) next
    (text ++ sentence, (text, sentence, refl, are, is), Appends-trans start before after text sentence begun more)
