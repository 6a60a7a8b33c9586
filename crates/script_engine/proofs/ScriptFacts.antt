-- A script that has tokens is not refused as a whole and is cut into pieces.
use Rattle.std.proofs.Common.{◌≡◌, ◌≤◌, ℕ, List, length, map, subst, arith, inl, inr}
use Rattle.std.specs.Str.{IsUtf8}
use Rattle.period_core.specs.Leasts.{NoneApplies}
use Rattle.period_core.specs.declared.refusal.Refusal.{Refusal}
use Rattle.period_core.specs.declared.refusal.Refusal.TheVariants.{BadStore, BadToken, NotUtf8, ScriptTooLarge}
use Rattle.sql_statements.specs.Lexemes.{Lexeme}
use Rattle.sql_front.specs.Pieces.{HasPieces, spanned}
use Rattle.sql_front.specs.TokenSpans.{lexemes_at}
use Rattle.sql_front.specs.declared.pieces.Span.{Span}
use Rattle.sql_front.specs.declared.token_spans.TokenSpan.{TokenSpan}
use Rattle.sql_statements.specs.Lexis.{TokensOf}
use Rattle.sql_front.proofs.TokenLists.{never_both_of}
use Rattle.script_engine.specs.script.Script.{IsCutInto, MayRefuseScript, ScriptApplies, most_bytes}

pub none_of_script : (script : List ℕ) (tokens : List Lexeme) → length script ≤ most_bytes → IsUtf8 script → TokensOf script tokens → NoneApplies (ScriptApplies script)
none_of_script script tokens small utf8 lexed NotUtf8 h = h.1 utf8
none_of_script script tokens small utf8 lexed ScriptTooLarge h = omega arith
none_of_script script tokens small utf8 lexed (BadToken offset) h = never_both_of script tokens offset lexed h.2
none_of_script script tokens small utf8 lexed _ h = h

-- no script is refused as a bad store
pub not_bad : (script : List ℕ) (refusal : Refusal) → MayRefuseScript script refusal → refusal ≡ BadStore → ⊥
not_bad script refusal (inl least) bad = subst (ScriptApplies script) bad least.applies
not_bad script refusal (inr memory) bad = cc

-- the pieces of a script are what the spans of its tokens span
pub cut_of : (script text : List ℕ) (tokens seen : List TokenSpan) (spans : List Span) → text ≡ script → seen ≡ tokens →
    length script ≤ most_bytes → IsUtf8 script → TokensOf text (lexemes_at text tokens) → HasPieces (lexemes_at text seen) (map (spanned (lexemes_at text seen)) spans) →
    IsCutInto script (map (spanned (lexemes_at text tokens)) spans)
cut_of script text tokens seen spans same slice small utf8 lexed pieces =
    let its : TokensOf script (lexemes_at text tokens) = subst (λ (s : List ℕ). TokensOf s (lexemes_at text tokens)) same lexed in
    record {
      sound = none_of_script script (lexemes_at text tokens) small utf8 its;
      tokens = lexemes_at text tokens;
      lexed = its;
      parted = subst (λ (ts : List TokenSpan). HasPieces (lexemes_at text ts) (map (spanned (lexemes_at text ts)) spans)) slice pieces;
    }
