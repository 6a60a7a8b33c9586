-- Worked rows: where the parts of a session end.
use Rattle.std.specs.Prelude.{◌≡◌, codes, refl}
use Rattle.bitemporal_file.specs.declared.parts.Place.TheVariants.{Outside, InComment, Ended}
use Rattle.bitemporal_file.specs.Parts.{EndsAtSemicolon, IsOpen, place_after_all}

-- a part ends at a semicolon
statement-ends : EndsAtSemicolon (codes "AT 1;")
statement-ends = (codes "AT 1", 59, refl, (λ is. cc), refl)

-- a part does not end in a text, in which a quote is written twice
text-open : IsOpen (codes "('it''s;")
text-open = λ is. cc

text_after : place_after_all Outside (codes "('it''s;'") ≡ Outside
text_after = refl

-- a part does not end in a comment, which ends with its line
comment-open : place_after_all Outside (codes "1 -- one; two") ≡ InComment
comment-open = refl

comment-ends : place_after_all Outside (codes "1 -- 'one;\n;") ≡ Ended
comment-ends = refl

-- one dash begins no comment, nor do two in a text
dash-ends : place_after_all Outside (codes "-;") ≡ Ended
dash-ends = refl

dashes_in_text : place_after_all Outside (codes "'--';") ≡ Ended
dashes_in_text = refl
