use Rattle.std.proofs.Common.{map, take}
use Rattle.command_line.specs.Words.{named_of, values}
use Rattle.command_line.specs.Found.{IsFound}
use Rattle.command_line.proofs.parts.Parts.find.Given as goal

abbrev pub invariant-loop-given : goal.invariant-loop-given
invariant-loop-given l = IsFound (values l.fn.name (map named_of (take l.given-index l.given-items))) l.found
