use Rattle.std.proofs.Common.{◌<◌, arith, Some, None, length, rules, subst, sym}
use Rattle.command_line.specs.declared.reading.Next.TheVariants.{Any}
use Rattle.command_line.specs.Steps.{Moves}
use Rattle.command_line.proofs.Steps.{plain_read, nothing_stands, behind_dashes, nothing_behind, end_read, joined_read, some_text}
use Rattle.std.proofs.lemmas.Str.Pattern.{split_parts}
use Rattle.command_line.proofs.reading.take_any.Goals as goal

pub returns-then-is_plain : goal.returns-then-is_plain
returns-then-is_plain c = plain_read _ _ c.args.word.now c.in_ok-add_plain.ensures.0 c.in_ok-add_plain.ensures.1 c.in_ok-add_plain.ensures.2 (c.is_plain.ensures.plain c.if-is_plain.true)

pub returns-in_default : goal.returns-in_default
returns-in_default c = nothing_stands c.args.parts.now c.args.parts.now c.args.word.now (c.is_plain.ensures.other c.if-is_plain.false) c.in_default.ensures.cases

pub returns-then-is_empty : goal.returns-then-is_empty
returns-then-is_empty c =
    let is = behind_dashes c.args.word.now c.in-Some.option.now c.in-Some.ensures.cases.0 c.in-Some.ensures.cases.1.1 c.in-Some.ensures.cases.2 in
    end_read _ _ (nothing_behind _ _ is (search rules))

pub returns-in_ok-add-in-Some-split_once : goal.returns-in_ok-add-in-Some-split_once
returns-in_ok-add-in-Some-split_once c =
    let is = behind_dashes c.args.word.now c.in-Some.option.now c.in-Some.ensures.cases.0 c.in-Some.ensures.cases.1.1 c.in-Some.ensures.cases.2 in
    let parts = split_parts 61 c.in-Some.option.now (Some (c.in-Some-split_once.name, c.in-Some-split_once.value)) c.in-Some-split_once.ensures.cases (omega arith) in
    joined_read _ _ _ _ _ _ c.in_ok-add-in-Some-split_once.ensures.0 c.in_ok-add-in-Some-split_once.ensures.1 c.in_ok-add-in-Some-split_once.ensures.2 is parts.0 parts.1

pub returns-in_ok-take_name-in-None : goal.returns-in_ok-take_name-in-None
returns-in_ok-take_name-in-None c =
    let is = behind_dashes c.args.word.now c.in-Some.option.now c.in-Some.ensures.cases.0 c.in-Some.ensures.cases.1.1 c.in-Some.ensures.cases.2 in
    let some : 0 < length c.in-Some.option.now = search rules in
    subst (λ w. Moves c.args.parts.now c.take_name.new.parts Any w c.in_ok-take_name-in-None.field-0) (sym is)
    (c.in_ok-take_name-in-None.ensures (split_parts 61 c.in-Some.option.now None c.in-None.ensures.cases (omega arith)) (some_text _ some))
