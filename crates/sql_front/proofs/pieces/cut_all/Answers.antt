use Rattle.std.proofs.Common.{◌≡◌, get_or, sym, ap, ◌∙◌}
use Rattle.sql_front.specs.Pieces.{is_semicolon}
use Rattle.sql_front.proofs.PiecesFacts.{AreCut, cut_start, cut_token, cut_piece, cut_empty, cut_last, cut_all}
use Rattle.sql_front.proofs.pieces.cut_all.Goals.{then-is_semicolon, then-start-i+in_ok-push, else-start-i, else-is_semicolon, then-start-tokens+in_ok-push-2, else-start-tokens}
use Rattle.sql_front.proofs.pieces.cut_all.Given.{Over}
use Rattle.sql_front.proofs.pieces.cut_all.Goals as goal

pub tokens-init : goal.tokens-init
tokens-init g c = rw c.new-spans.ensures.items (cut_start (g.T.Lexed.lexeme c.args.script.now) c.args.tokens.now)

pub tokens-preserved : goal.tokens-preserved
tokens-preserved g c =
    let f = g.T.Lexed.lexeme c.args.script.now in
    let token = c.index-tokens-i.result in
    let answer : is_semicolon (f (get_or c.args.tokens.now c.tokens.i token)) ≡ c.is_semicolon.result = ap (λ t. is_semicolon (f t)) (sym c.index-tokens-i.is) ∙ sym c.is_semicolon.ensures in
    elim c.if-is_semicolon.branch [
      | then-is_semicolon w ↦ elim w.if-start-i.branch [
        | then-start-i+in_ok-push x ↦ rw (w.start-is, w.spans-is, x.spans-is)
            (cut_piece f c.args.tokens.now c.tokens.start c.tokens.i c.tokens.spans.items x.push.new.self.items token c.tokens.invariant c.tokens-test.true
            (answer ∙ w.if-is_semicolon.true) x.if-start-i.true x.in_ok-push.ensures.items)
        | else-start-i x ↦ rw (w.start-is, w.spans-is, x.spans-is)
            (cut_empty f c.args.tokens.now c.tokens.start c.tokens.i c.tokens.spans.items token c.tokens.invariant c.tokens-test.true
            (answer ∙ w.if-is_semicolon.true) x.if-start-i.false)
      ]
      | else-is_semicolon w ↦ rw (w.start-is, w.spans-is)
          (cut_token f c.args.tokens.now c.tokens.start c.tokens.i c.tokens.spans.items token c.tokens.invariant c.tokens-test.true
          (answer ∙ w.if-is_semicolon.false))
    ]

-- at the end the spans are the cut of all tokens
done : (g : Over) (c : goal.Joined-start-tokens g) → AreCut (g.T.Lexed.lexeme c.args.script.now) c.args.tokens.now c.if-start-tokens.spans.items
done g c =
    let f = g.T.Lexed.lexeme c.args.script.now in
    elim c.if-start-tokens.branch [
      | then-start-tokens+in_ok-push-2 w ↦ cut_last f c.args.tokens.now c.tokens.start c.tokens.i c.tokens.spans.items c.if-start-tokens.spans.items c.tokens.invariant
          c.tokens-test.false c.tokens.auto.i-end w.if-start-tokens.true (ap (λ v. v.items) w.spans-is ∙ w.in_ok-push-2.ensures.items)
      | else-start-tokens w ↦ rw w.spans-is (cut_all f c.args.tokens.now c.tokens.start c.tokens.i c.tokens.spans.items c.tokens.invariant
          c.tokens-test.false c.tokens.auto.i-end w.if-start-tokens.false)
    ]

pub returns-clause-pieces : goal.returns-clause-pieces
returns-clause-pieces g c = (done g c).whole

pub returns-clause-within : goal.returns-clause-within
returns-clause-within g c = (done g c).within

pub returns-clause-placed : goal.returns-clause-placed
returns-clause-placed g c = (done g c).places
