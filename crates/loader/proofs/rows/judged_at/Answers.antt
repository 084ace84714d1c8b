-- Proofs of the goals of `judged_at` (`rows`).
use Rattle.std.proofs.Common.{◌∙◌, ap, sym}
use Rattle.std.specs.Str.{is_utf8}
use Rattle.csv.specs.Records.{fields_of}
use Rattle.loader.proofs.Fields.{text_there}
use Rattle.loader.proofs.TextFields.{blank_text}
use Rattle.loader.proofs.Values.{value_there, no_field, none_judged}
use Rattle.loader.proofs.rows.judged_at.Goals as goal

pub returns-in_default-clause-value : goal.returns-in_default-clause-value
returns-in_default-clause-value c = sym (none_judged c.args.parsed.now (fields_of c.args.fields.now) c.args.index c.in_default.ensures.lookup.3)

pub returns-in_default-field_at-clause-value : goal.returns-in_default-field_at-clause-value
returns-in_default-field_at-clause-value c = sym (no_field c.args.parsed.now (fields_of c.args.fields.now) c.args.index (sym c.in_default-field_at.ensures))

pub returns-clause-value : goal.returns-clause-value
returns-clause-value c = sym (value_there c.args.parsed.now (fields_of c.args.fields.now) c.args.index c.in-Some.judged.now c.in-Some-field_at.field.now c.in-Some.ensures.lookup.3.0 c.in-Some.ensures.lookup.1 (sym c.in-Some-field_at.ensures))

pub returns-in_default-clause-text : goal.returns-in_default-clause-text
returns-in_default-clause-text c = ap is_utf8 c.as_slice.ensures ∙ blank_text

pub returns-in_default-field_at-clause-text : goal.returns-in_default-field_at-clause-text
returns-in_default-field_at-clause-text c = ap is_utf8 c.as_slice-in_default-field_at.ensures ∙ blank_text

pub returns-clause-text : goal.returns-clause-text
returns-clause-text c = text_there (fields_of c.args.fields.now) c.args.index c.in-Some-field_at.field.now c.requires (sym c.in-Some-field_at.ensures)
