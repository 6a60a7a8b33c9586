use Rattle.std.proofs.Common.{List, Option, ⊎_elim, inl, inr, map, option_map, rules, string_bytes, subst, sym}
use Rattle.clap.specs.Words.{Row, Text, subcommand_of}
use Rattle.command_line.specs.CommandLine.{Chooses, IsLineFault, bitemporal}
use Rattle.command_line.proofs.ClapClauses.{fault_for_kinds, none_found, one_found, only_memory, reported_wider}
use Rattle.command_line.proofs.CommandLines.{chosen_word, is_simple_and_free-bitemporal, read_so, row_of_subcommand, same_choice}
use Rattle.command_line.proofs.command.command_line.Goals as goal

pub returns-in-Ok-file_of-clause-refuses : goal.returns-in-Ok-file_of-clause-refuses
returns-in-Ok-file_of-clause-refuses g c = none_found bitemporal _ _ c.in-Ok-command.ensures is_simple_and_free-bitemporal c.in-Ok-try_get_matches_from_mut.ensures.kinds

pub returns-in-Err-clause-accepts : goal.returns-in-Err-clause-accepts
returns-in-Err-clause-accepts g c mode file asks =
    let found = one_found bitemporal _ _ c.in-Ok-command.ensures c.in-Err.fault is_simple_and_free-bitemporal c.in-Err.ensures.kinds in
    c.of_clap.ensures.memory (only_memory _ c.in-Err.fault (read_so _ mode file asks).0 found)

pub returns-in-Err-clause-refused : goal.returns-in-Err-clause-refused
returns-in-Err-clause-refused g c =
    let found = one_found bitemporal _ _ c.in-Ok-command.ensures c.in-Err.fault is_simple_and_free-bitemporal c.in-Err.ensures.kinds in
    fault_for_kinds _ _ c.in-Err.fault _ found c.of_clap.ensures.memory c.of_clap.ensures.told (λ kind among. inl among)

pub returns-in_default-mode_of-clause-accepts : goal.returns-in_default-mode_of-clause-accepts
returns-in_default-mode_of-clause-accepts g c mode file asks =
    let chooses = (read_so _ mode file asks).1 in
    let row = row_of_subcommand _ _ c.in-Ok-try_get_matches_from_mut.matches c.in-Ok-command.ensures c.in-Ok-try_get_matches_from_mut.ensures.ok.2 in
    let word = chosen_word _ c.in-Some.name.now mode file c.in-Some.ensures.name (subst (λ (chosen : Option (Text × List Row)). Chooses chosen mode file) (sym row) chooses) in
    absurd (⊎_elim c.in_default-mode_of.ensures.other.0 c.in_default-mode_of.ensures.other.1 word)

pub returns-in-Ok-file_of-clause-accepts : goal.returns-in-Ok-file_of-clause-accepts
returns-in-Ok-file_of-clause-accepts g c mode file asks =
    let said = map g.S.AsStr.text c.args.words.now in
    let found : Chooses (subcommand_of bitemporal said) c.in-Some-mode_of.mode (option_map string_bytes c.in-Ok-file_of.file) = search rules in
    same_choice _ _ _ _ _ found (read_so said mode file asks).1

pub returns-in_default-mode_of-clause-refused : goal.returns-in_default-mode_of-clause-refused
returns-in_default-mode_of-clause-refused g c = reported_wider _ (IsLineFault (map g.S.AsStr.text c.args.words.now)) _ (λ kind none. inr (none, none_found bitemporal _ _ c.in-Ok-command.ensures is_simple_and_free-bitemporal c.in-Ok-try_get_matches_from_mut.ensures.kinds)) c.no_subcommand-in_default-mode_of.ensures
