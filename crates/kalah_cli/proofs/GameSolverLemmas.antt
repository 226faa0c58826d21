-- What stands in the output before a position of a game is solved.
use Rattle.std.proofs.Common.{◌≡◌, ℕ, ℤ, List, Option, [], ◌∷◌, ◌++◌, Bool, refl, sym, subst, ap, append_assoc, ◌∙◌, append-nil}
use Rattle.kalah_rules.specs.{Position.{Position}, Play.{position_after, step_of}, declared.step.Step.{Step}}
use Rattle.kalah_solve.specs.{declared.solver.move_values.MoveValue.{MoveValue}}
use Rattle.kalah_jobs.specs.{Writing.{Sink.{SinkState, WasGiven}, ValuesLine.{shown_of, values_line}, Variation.{variation_start}, Picture.{picture_of}}, Files.Lines.{line_feed}}
use Rattle.kalah_jobs.proofs.SinkLemmas.{given_then_flush, given_then}
use Rattle.kalah_cli.specs.{IsNextMove, move_text, MoveForm, Houses, Lines, board_lines, BeginsGame, GameStart, ShowsValues, IsReached, Commands.GameSolver.IsReached.{reached_by_move, reached_at_start}}
use Rattle.kalah_cli.proofs.GameLemmas.{next_text}

module _ {O : Type 0} {state : O → SinkState} where
  -- the first position of a game is shown, once it was given
  pub first_is_reached : {game : GameStart O} {boards values : Bool} {p : Position} {old new : O}
      → game ≡ record { form = Lines boards values; first = p; sink = old } → WasGiven state old new (board_lines boards p)
      → IsReached state game new p
  first_is_reached begun given = rw begun (reached_at_start (refl, given))

  -- the position after the first move of a variation is reached, once the line of that move began
  pub variation_is_reached : {game : GameStart O} {p q : Position} {between new : O} (v : MoveValue) → ShowsValues state game p between
      → WasGiven state between new (variation_start v) → q ≡ position_after (step_of p v.house) → IsReached state game new q
  variation_is_reached {game} {q = q} {between = between} {new = new} v below given after_move =
      reached_at_start (subst (λ f. BeginsGame state game f new q) (sym below.form) (record {
        between = between;
        move = v;
        below = subst (λ r. ShowsValues state game r between) (sym below.first) below;
        line = given;
        after = rw below.first after_move;
      }))

  -- the picture and the line below it were given, and variations may follow
  pub variations_begin : {game now : GameStart O} {p : Position} {old between new : O}
      → game ≡ record { form = Houses; first = p; sink = old } → now ≡ game → WasGiven state old between (picture_of p)
      → WasGiven state between new (values_line p ++ line_feed ∷ []) → ShowsValues state now p new
  unfolding shown_of
  variations_begin {p = p} begun same_game picture values =
      rw (same_game, begun) (record {
        form = refl;
        first = refl;
        more = [];
        shown = rw (append-nil (shown_of p)) (given_then _ picture values);
      })

  -- more of the variations was given
  pub variations_go_on : {game now : GameStart O} {p : Position} {between new : O} {text : List ℕ} → now ≡ game
      → ShowsValues state game p between → WasGiven state between new text → ShowsValues state now p new
  variations_go_on {p = p} {text = text} same_game below given = rw same_game (record {
    form = below.form;
    first = below.first;
    more = below.more ++ text;
    shown = rw (← append_assoc (shown_of p) below.more text) (given_then _ below.shown given);
  })

  -- how a game began, after a flush
  begins_flushed : (game : GameStart O) (form : MoveForm) (p : Position) {between new : O} → BeginsGame state game form between p
      → WasGiven state between new [] → BeginsGame state game form new p
  begins_flushed game (Lines boards values) p (at_first, given) flushed = (at_first, given_then_flush _ given flushed)
  begins_flushed game Houses p begun flushed = record {
    between = begun.between;
    move = begun.move;
    below = begun.below;
    line = given_then_flush _ begun.line flushed;
    after = begun.after;
  }

  -- ==== a position that was reached

  module _ {game : GameStart O} {p : Position} {between new : O} (reached : IsReached state game between p) where
    pub reached_after_flush : WasGiven state between new [] → IsReached state game new p
    reached_after_flush flushed = go reached flushed where
      go : {q : Position} {o : O} → IsReached state game o q → WasGiven state o new [] → IsReached state game new q
      go (reached_at_start begun) flushed = reached_at_start (begins_flushed game game.form _ begun flushed)
      go (reached_by_move o q h before given) flushed = reached_by_move o q h before (given_then_flush _ given flushed)

    -- the next position is reached, once its move was given
    pub next_is_reached : {now : GameStart O} {first : Option ℕ} {value : Option ℤ} {h : ℕ} {s : Step} {q : Position} → now ≡ game
        → IsNextMove game.form first p value h → s ≡ step_of p h → q ≡ position_after s
        → WasGiven state between new (move_text now.form value h s) → IsReached state now new q
    next_is_reached {now} {first} {value} {h} {s} same_game next step_is after_move given =
        let text = ap (λ begun. move_text begun.form value h s) same_game ∙ next_text next step_is in
        rw (same_game, after_move, step_is) (reached_by_move between p h reached (subst (WasGiven state between new) text given))
