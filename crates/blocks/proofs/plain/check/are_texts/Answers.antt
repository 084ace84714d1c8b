-- Proofs of the goals of `are_texts` (`plain::check`).
use Rattle.std.proofs.Common.{◌+◌, length, drop, refl, sym, ◌∙◌}
use Rattle.std.specs.Str.{IsUtf8}
use Rattle.std.proofs.lemmas.Bool.{false≢true}
use Rattle.std.proofs.lemmas.Str.{IsCharBoundary-start}
use Rattle.bit_packing.specs.Bytes.{words}
use Rattle.blocks.proofs.Ends.{ends_within, texts_step, texts_end}
use Rattle.bit_packing.proofs.Steps.{and_true}
use Rattle.blocks.proofs.TextCuts.{utf8_behind, cut_if_texts, text_if_cut, false_unless, utf8_if_ok, not_utf8_if_err}
use Rattle.blocks.proofs.plain.check.are_texts.Goals as goal

pub returns-then-is_err : goal.returns-then-is_err
returns-then-is_err c =
    let joined = c.args.joined.now in
    let wrong : ¬ (IsUtf8 joined) = not_utf8_if_err c.from_utf8.result joined _ _ c.from_utf8.ensures.cases (sym c.is_err.ensures.value ∙ c.if-is_err.true) in
    false_unless _ (λ e. wrong (utf8_behind 0 (words c.args.count c.args.bytes.now) joined c.requires.ends e))

pub loop-i-init : goal.loop-i-init
loop-i-init c =
    record {
      texts = refl;
      ends = c.requires.ends;
      cut = IsCharBoundary-start c.args.joined.now (utf8_if_ok c.from_utf8.result c.args.joined.now _ _ c.from_utf8.ensures.cases (sym c.is_err.ensures.value ∙ c.if-is_err.false));
    }

pub is_cut-requires-clause-ordered : goal.is_cut-requires-clause-ordered
is_cut-requires-clause-ordered c =
    (ends_within c.args.count c.args.bytes.now c.loop-i.start c.loop-i.i (length c.args.joined.now) c.word_at-end.result c.loop-i-test.true c.word_at-end.ensures c.loop-i.invariant.ends).0

pub is_cut-requires-clause-within : goal.is_cut-requires-clause-within
is_cut-requires-clause-within c =
    (ends_within c.args.count c.args.bytes.now c.loop-i.start c.loop-i.i (length c.args.joined.now) c.word_at-end.result c.loop-i-test.true c.word_at-end.ensures c.loop-i.invariant.ends).1

pub returns-then-not-is_cut : goal.returns-then-not-is_cut
returns-then-not-is_cut c =
    let joined = c.args.joined.now in
    let end = c.word_at-end.result in
    let p = ends_within c.args.count c.args.bytes.now c.loop-i.start c.loop-i.i (length joined) end c.loop-i-test.true c.word_at-end.ensures c.loop-i.invariant.ends in
    let step = texts_step c.args.count c.args.bytes.now joined c.loop-i.start c.loop-i.i end _ c.loop-i-test.true c.word_at-end.ensures c.loop-i.invariant.texts in
    false_unless _ (λ e. false≢true (sym c.if-not-is_cut.true ∙ c.is_cut.ensures.1 (cut_if_texts c.loop-i.start end (drop (c.loop-i.i + 1) (words c.args.count c.args.bytes.now)) joined p.0 p.1 p.2 (step ∙ e))))

pub loop-i-preserved : goal.loop-i-preserved
loop-i-preserved c =
    let joined = c.args.joined.now in
    let end = c.word_at-end.result in
    let p = ends_within c.args.count c.args.bytes.now c.loop-i.start c.loop-i.i (length joined) end c.loop-i-test.true c.word_at-end.ensures c.loop-i.invariant.ends in
    let step = texts_step c.args.count c.args.bytes.now joined c.loop-i.start c.loop-i.i end _ c.loop-i-test.true c.word_at-end.ensures c.loop-i.invariant.texts in
    let whole : IsUtf8 joined = utf8_if_ok c.from_utf8.result joined _ _ c.from_utf8.ensures.cases (sym c.is_err.ensures.value ∙ c.if-is_err.false) in
    let cut = c.is_cut.ensures.0 c.if-not-is_cut.false in
    record {
      texts = and_true _ _ _ step (text_if_cut c.loop-i.start end joined whole p.0 p.1 c.loop-i.invariant.cut cut);
      ends = p.2;
      cut = cut.1;
    }

pub returns : goal.returns
returns c = texts_end c.args.count c.args.bytes.now c.args.joined.now c.loop-i.start c.loop-i.i _ c.loop-i-test.false c.loop-i.invariant.texts
