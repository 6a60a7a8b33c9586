use Rattle.std.proofs.Common.{List, inl, inr, map, rules, subst}
use Rattle.clap.specs.Words.{Row}
use Rattle.command_line.specs.FileCommand.{Asks, IsFileFault, bitemporal_file}
use Rattle.command_line.proofs.ClapClauses.{fault_for_kinds, none_found, one_found, only_memory, reported_wider, rows_found}
use Rattle.command_line.proofs.FileWords.{asked_as, is_simple-bitemporal_file, is_simple_and_free-bitemporal_file, no_conflict, no_fault}
use Rattle.command_line.proofs.file_command.parse_request.Goals as goal

pub returns-in-Err-clause-accepts : goal.returns-in-Err-clause-accepts
returns-in-Err-clause-accepts g c form =
    let found = one_found bitemporal_file _ _ c.in-Ok.ensures c.in-Err.fault is_simple_and_free-bitemporal_file c.in-Err.ensures.kinds in
    c.of_clap.ensures.memory (only_memory _ c.in-Err.fault (no_fault (map g.S.AsStr.text c.args.words.now) form) found)

pub returns-in-Err-clause-refused : goal.returns-in-Err-clause-refused
returns-in-Err-clause-refused g c =
    let found = one_found bitemporal_file _ _ c.in-Ok.ensures c.in-Err.fault is_simple_and_free-bitemporal_file c.in-Err.ensures.kinds in
    fault_for_kinds _ _ c.in-Err.fault _ found c.of_clap.ensures.memory c.of_clap.ensures.told (λ kind among. inl among)

pub returns-in-None-clause-accepts : goal.returns-in-None-clause-accepts
returns-in-None-clause-accepts g c form =
    let rows = rows_found bitemporal_file _ _ c.in-Ok.ensures c.in-Ok-try_get_matches_from_mut.matches is_simple-bitemporal_file c.in-Ok-try_get_matches_from_mut.ensures.ok.2 in
    asked_as (map g.S.AsStr.text c.args.words.now) c.in-Ok-asked_of.asked form (subst (λ (rows : List Row). Asks rows c.in-Ok-asked_of.asked) rows c.in-Ok-asked_of.ensures)

pub returns-in-None-clause-taken : goal.returns-in-None-clause-taken
returns-in-None-clause-taken g c = none_found bitemporal_file _ _ c.in-Ok.ensures is_simple_and_free-bitemporal_file c.in-Ok-try_get_matches_from_mut.ensures.kinds

pub returns-in-None-clause-asked : goal.returns-in-None-clause-asked
returns-in-None-clause-asked g c =
    let rows = rows_found bitemporal_file _ _ c.in-Ok.ensures c.in-Ok-try_get_matches_from_mut.matches is_simple-bitemporal_file c.in-Ok-try_get_matches_from_mut.ensures.ok.2 in
    subst (λ (rows : List Row). Asks rows c.in-Ok-asked_of.asked) rows c.in-Ok-asked_of.ensures

pub returns-clause-accepts : goal.returns-clause-accepts
returns-clause-accepts g c form =
    let rows = rows_found bitemporal_file _ _ c.in-Ok.ensures c.in-Ok-try_get_matches_from_mut.matches is_simple-bitemporal_file c.in-Ok-try_get_matches_from_mut.ensures.ok.2 in
    let said = map g.S.AsStr.text c.args.words.now in
    let asks = asked_as said c.in-Ok-asked_of.asked form (subst (λ (rows : List Row). Asks rows c.in-Ok-asked_of.asked) rows c.in-Ok-asked_of.ensures) in
    absurd (no_conflict _ c.in-Ok-asked_of.asked form asks (c.conflict_in.ensures.some (search rules)))

pub returns-clause-refused : goal.returns-clause-refused
returns-clause-refused g c =
    let rows = rows_found bitemporal_file _ _ c.in-Ok.ensures c.in-Ok-try_get_matches_from_mut.matches is_simple-bitemporal_file c.in-Ok-try_get_matches_from_mut.ensures.ok.2 in
    let said = map g.S.AsStr.text c.args.words.now in
    let asks = subst (λ (rows : List Row). Asks rows c.in-Ok-asked_of.asked) rows c.in-Ok-asked_of.ensures in
    let conflict = c.conflict_in.ensures.some (search rules) in
    reported_wider _ (IsFileFault said) _ (λ kind is. inr (is, (c.in-Ok-asked_of.asked, asks, conflict))) c.mistake_beside.ensures
