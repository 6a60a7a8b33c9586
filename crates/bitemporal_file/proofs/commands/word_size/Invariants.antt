use Rattle.std.proofs.Common.{◌≡◌, ◌+◌, drop}
use Rattle.std.specs.List.{prefix_len}
use Rattle.std.specs.Char.{is_ascii_alphabetic}
use Rattle.bitemporal_file.proofs.commands.word_size.Given as goal

abbrev pub invariant-loop-i : goal.invariant-loop-i
invariant-loop-i l = prefix_len is_ascii_alphabetic l.line ≡ l.i + prefix_len is_ascii_alphabetic (drop l.i l.line)
