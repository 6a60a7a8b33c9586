use Rattle.std.proofs.Common.{◌≡◌, ◌<◌, ◌≤◌, ◌∙◌, List, [], ◌∷◌, MatchOption, None, Option, Some, ap, arith, get_or, length, map, subst}
use Rattle.std.specs.String.{string_bytes}
use Rattle.clap.specs.Words.{Text}
use Rattle.command_line.specs.Backup.{backup_by, backup_in}
use Rattle.command_line.specs.declared.backup.Backup.{Backup}
use Rattle.command_line.proofs.backup.backup_of.Goals as goal

-- four words, the first of which is the program's name
four : {X : Type 0} (text : X → Text) (words : List X) (a b c : X) (first second third : Text) → 4 ≤ length words → length words < 5 → a ≡ get_or words 1 a → b ≡ get_or words 2 b → c ≡ get_or words 3 c
    → first ≡ text a → second ≡ text b → third ≡ text c → backup_by first second third ≡ backup_in (map text words)
four text [] a b c first second third low high one two three is_first is_second is_third = absurd (omega (arith, low))
four text (p ∷ []) a b c first second third low high one two three is_first is_second is_third = absurd (omega (arith, low))
four text (p ∷ x ∷ []) a b c first second third low high one two three is_first is_second is_third = absurd (omega (arith, low))
four text (p ∷ x ∷ y ∷ []) a b c first second third low high one two three is_first is_second is_third = absurd (omega (arith, low))
four text (p ∷ x ∷ y ∷ z ∷ []) a b c first second third low high one two three is_first is_second is_third =
    ap (λ t. backup_by t second third) (is_first ∙ ap text one) ∙ ap (λ t. backup_by (text x) t third) (is_second ∙ ap text two) ∙ ap (λ t. backup_by (text x) (text y) t) (is_third ∙ ap text three)
four text (p ∷ x ∷ y ∷ z ∷ w ∷ more) a b c first second third low high one two three is_first is_second is_third = absurd (omega (arith, high))

pub returns-in-len4 : goal.returns-in-len4
returns-in-len4 c =
    let low : 4 ≤ length c.args.words.now = omega arith in
    let high : length c.args.words.now < 5 = omega arith in
    let found = four string_bytes c.args.words.now c.first-item.result c.second-item.result c.third-item.result c.as_str.result.now c.as_str-in-len4.result.now c.as_str-in-len4-2.result.now low high c.first-item.is c.second-item.is c.third-item.is c.as_str.ensures.value c.as_str-in-len4.ensures.value c.as_str-in-len4-2.ensures.value in
    subst (λ (t : Option (Text × Text)). MatchOption c.backup_by.result (t ≡ None) (λ (asked : Backup). t ≡ Some (asked.store.now, asked.file.now))) found c.backup_by.ensures
