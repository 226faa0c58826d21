-- The rows of a walk by clap fit their arguments, if no step has a fault. Nothing here is of Kalah.
use Rattle.std.proofs.Common.{IfSome, find, encode_utf8, slice_get, bytes_eq, chars, fold, ◌≡◌, ◌||◌, Bool, cond, true, false, inl, inr}
use Rattle.std.proofs.Common.{refl, List, [], ◌∷◌, Option, None, Some, ◌++◌, ℕ, zero, suc, ◌<◌, ap, arith, drop, length, nat_lt, ◌&&◌}
use Rattle.std.proofs.lemmas.{Bool.{true_from_ne_false, cases_Bool, cond_both, or_parts, ne_eqb}, Option.{IfSome_then}}
use Rattle.std.specs.{List.{AllByRecursion as AllOf, list_any}, Option.{option_map_or}}
use Rattle.clap.specs.{Lexer.{long_of, short_of}, Facts.{parser_of_value, unwrap_or_range}}
use Rattle.clap.specs.{Kinds.{Kinds, or_else, range_kinds}, Values.{Accepts, refused_kind}}
use Rattle.clap.specs.Walk.{Held, Outcome, Row, Rule, Step, Text, Waiting, Walk, action_of, after_flag, after_step, arg_by_id, arg_by_index}
use Rattle.clap.specs.Walk.{arg_by_long, arg_by_short, at_row, attached_value, bundle_met, bundle_step, default_rows, done, has_row}
use Rattle.clap.specs.Walk.{is_empty, is_pending, long_met, long_or_other, more_values, most_values, option, option_met, option_word, plain}
use Rattle.clap.specs.Walk.{reacted, reading_by, settled, settled_rows, short_met, short_or_plain, subcommand_met, subcommand_or_other}
use Rattle.clap.specs.Walk.{takes_several, takes_values, to_positional, used_as, used_by_id, value, values_or_missing, waits, walked}
use Rattle.clap.specs.Walk.{walked_from, with_default, with_values, without, word_met}
use Rattle.clap.specs.Simple.{Shape}
use Rattle.clap.specs.Faults.{action_fault, bundle_fault, bundle_step_fault, defaults_fault, flag_word_fault, flags_fault}
use Rattle.clap.specs.Faults.{given_default_fault, long_fault, option_fault, other_fault, positional_fault, react_fault, settle_fault}
use Rattle.clap.specs.Faults.{short_fault, step_fault, stray_fault, turn_fault, use_fault, values_fault, walk_fault, word_fault}
use Rattle.clap.specs.declared.builder.action.ArgAction.{ArgAction, TheVariants.{Append, Help, Set, SetTrue}}
use Rattle.clap.specs.declared.parser.matches.ValueSource.{ValueSource, TheVariants.{CommandLine, DefaultValue}}
use Rattle.clap.proofs.ValueTestLemmas.{accepts-Accepts}

-- ==== items of lists, and kinds of faults

-- what holds of each item holds of one that is found
pub found_all : {X : Type 0} (Q : X → Type 0) (t : X → Bool) (xs : List X) → AllOf Q xs → IfSome (find t xs) Q
found_all Q t [] all = tt
found_all Q t (x ∷ xs) all = cond_both (t x) (Some x) (find t xs) (λ o. IfSome o Q) (λ _. all.0) (λ _. found_all Q t xs all.1)

pub found_passes : {X : Type 0} (t : X → Bool) (xs : List X) → IfSome (find t xs) (λ x. t x ≡ true)
found_passes t [] = tt
found_passes t (x ∷ xs) =
    cond_both (t x) (Some x) (find t xs) (λ o. IfSome o (λ y. t y ≡ true)) (λ passes. passes) (λ _. found_passes t xs)

-- a test that no item passes
pub none_pass : {X : Type 0} (t : X → Bool) (xs : List X) → list_any t xs ≡ false → AllOf (λ x. t x ≡ false) xs
none_pass t [] none_passes = tt
none_pass t (x ∷ xs) none_passes = let parts = or_parts (t x) (list_any t xs) none_passes in (parts.0, none_pass t xs parts.1)

-- no kind if the first or else the second has none: neither has any
pub both_none : {a b : Kinds} → or_else a b ≡ [] → (a ≡ []) × (b ≡ [])
both_none {a = []} none = (refl, none)
both_none {a = k ∷ ks} none = cc

-- ==== the row of an argument

-- it has a value, the argument's parser accepts the first one, and it is read as the parser says
pub record Fits (a : Rule) (r : Row) : Type 0 where
  pub value : Text
  pub more : List Text
  pub values : r.values ≡ value ∷ more
  pub reading : r.reading ≡ reading_by a
  pub accepted : Accepts a.ignore_case (parser_of_value a.parser) value

-- it fits the argument of its id
abbrev pub FitsIn : List Rule → Row → Type 0
FitsIn rules r = IfSome (arg_by_id rules r.id) (λ a. Fits a r)

-- a use of the argument has a value, of its own or in place of none
abbrev has_value : Rule → Bool
has_value a = nat_lt 0 (unwrap_or_range a.range).start_inclusive || nat_lt 0 (length a.missing)

-- it adds its values, or asks for help
abbrev pub is_usable : ArgAction → Rule → Bool
is_usable Set a = has_value a
is_usable Append a = has_value a
is_usable SetTrue a = has_value a
is_usable Help a = true
is_usable _ a = false

-- the argument is found by its id, and has such uses
abbrev pub IsUsable : List Rule → Rule → Type 0
IsUsable rules a = (arg_by_id rules a.id ≡ Some a) × (is_usable (action_of a) a ≡ true)

first_accepted : (a : Rule) (v : Text) (vs : List Text) → values_fault a (v ∷ vs) ≡ []
    → Accepts a.ignore_case (parser_of_value a.parser) v
first_accepted a v vs no_fault = accepts-Accepts a.ignore_case (parser_of_value a.parser) v (true_from_ne_false _ (λ refused.
    let fault : refused_kind (parser_of_value a.parser) ∷ [] ≡ [] = rw refused at no_fault in
    cc))

use_has_value : (a : Rule) (values : List Text) → has_value a ≡ true
    → range_kinds (unwrap_or_range a.range).start_inclusive (most_values a) (length values) ≡ []
    → 0 < length (values_or_missing a values)
use_has_value a [] valued in_range = grind arith
use_has_value a (v ∷ vs) valued in_range = omega arith

-- ==== the walk over the arguments of a command without subcommands

module _ (s : Shape) (all_usable : AllOf (IsUsable s.rules) s.rules) where
  -- its arguments, and whether one may be given again
  abbrev rules : List Rule
  rules = s.rules

  abbrev again : Bool
  again = s.args_override_self

  -- each row fits its argument
  abbrev Fit : List Row → Type 0
  Fit rows = AllOf (FitsIn rules) rows

  -- a step keeps it that the rows fit, if it has no fault
  abbrev Keeps : Kinds → List Row → List Row → Type 0
  Keeps kinds before after = kinds ≡ [] → Fit before → Fit after

  -- a step and then another keep it
  kept_both : {k l : Kinds} (x y z : List Row) → Keeps k x y → Keeps l y z → Keeps (or_else k l) x z
  kept_both x y z first second no_fault fit = let none = both_none no_fault in second none.1 (first none.0 fit)

  -- each branch at a test keeps it
  at_test : {X : Type 0} (b : Bool) {k l : Kinds} (x : List Row) (y z : Held × X) → Keeps k x y.0.rows → Keeps l x z.0.rows
      → Keeps (cond b k l) x (cond b y z).0.rows
  at_test true x y z if_true if_false = if_true
  at_test false x y z if_true if_false = if_false

  of_rules : (t : Rule → Bool) → IfSome (find t rules) (IsUsable rules)
  of_rules t = found_all (IsUsable rules) t rules all_usable

  -- a change of the row of an id, or a new one
  kept_at : (id : Text) (change : Row → List Row) (missing : List Row)
      → ((r : Row) (rs : List Row) → FitsIn rules r → Fit rs → Fit (change r ++ rs)) → Fit missing → (rows : List Row)
      → Fit rows → Fit (at_row id change missing rows)
  kept_at id change missing changed new [] fit = new
  kept_at id change missing changed new (r ∷ rs) fit =
      cond_both (bytes_eq r.id id) (change r ++ rs) (r ∷ at_row id change missing rs) Fit (λ _. changed r rs fit.0 fit.1)
      (λ _. (fit.0, kept_at id change missing changed new rs fit.1))

  -- values that are added to the row of their argument
  kept_values : (a : Rule) → IsUsable rules a → (source : ValueSource) (vs : List Text) → 0 < length vs → (rows : List Row)
      → Keeps (values_fault a vs) rows (with_values a.id (reading_by a) source vs rows)
  kept_values a usable source [] nonempty rows no_fault fit = absurd (omega arith)
  kept_values a usable source (v ∷ vs) nonempty rows no_fault fit =
      kept_at a.id (more_values source (v ∷ vs)) _ (λ r rs own rest. (
        IfSome_then (arg_by_id rules r.id) own (λ b old. record {
          value = old.value;
          more = old.more ++ v ∷ vs;
          values = ap (λ l. l ++ v ∷ vs) old.values;
          reading = old.reading;
          accepted = old.accepted;
        }),
        rest,
      ))
      (rw usable.0 (record { value = v; more = vs; values = refl; reading = refl; accepted = first_accepted a v vs no_fault }), tt) rows fit

  -- a use of an argument, if there is one
  kept_used : (o : Option Rule) → IfSome o (IsUsable rules) → (values : List Text) (rows : List Row)
      → Keeps (option_map_or (λ a. use_fault again a values rows) o []) rows (used_by_id o values rows)
  kept_used None usable values rows = λ _ fit. fit
  kept_used (Some a) usable values rows = λ no_fault fit.
      let no_faults = both_none no_fault in
      go (action_of a) usable.1 (λ valued. use_has_value a values valued no_faults.0) no_faults.1 fit
    where
      vs : List Text
      vs = values_or_missing a values

      others : Fit rows → Fit (without a.id rows)
      others = kept_at a.id (λ _. []) [] (λ r rs own rest. rest) tt rows

      go : (x : ArgAction) → is_usable x a ≡ true → (has_value a ≡ true → 0 < length vs)
          → Keeps (action_fault x again a vs rows) rows (used_as x a.id (reading_by a) vs rows)
      go Set by_action nonempty no_fault fit =
          kept_values a usable CommandLine vs (nonempty by_action) _ (both_none no_fault).1 (others fit)
      go Append by_action nonempty no_fault fit = kept_values a usable CommandLine vs (nonempty by_action) rows no_fault fit
      go SetTrue by_action nonempty no_fault fit =
          kept_values a usable CommandLine vs (nonempty by_action) _ (both_none no_fault).1 (others fit)
      go Help by_action nonempty no_fault fit = fit
      go x by_action nonempty no_fault fit = cc

  -- settling the argument that still takes values, if there is one
  pub kept_settled : (o : Option (Text × List Text)) (h : Held)
      → Keeps (settle_fault rules again (record h { pending = o })) h.rows (settled_rows rules o h.rows)
  kept_settled None h = λ _ fit. fit
  kept_settled (Some p) h = kept_used (arg_by_id rules p.0) (of_rules _) p.1 h.rows

  -- an argument that is met, with its values
  kept_reacted : (a : Rule) → IsUsable rules a → (values : List Text) (h : Held)
      → Keeps (react_fault rules again a values h) h.rows (reacted rules a values h).rows
  kept_reacted a usable values h = kept_both _ _ _ (kept_settled h.pending h) (kept_used (Some a) usable values (settled rules h).rows)

  -- an option, with its value attached or to come
  kept_option : (a : Rule) → IsUsable rules a → (o : Option Text) (h : Held)
      → Keeps (option_fault rules again a o h) h.rows (option_met rules a o h).0.rows
  kept_option a usable (Some v) h = kept_reacted a usable (v ∷ []) h
  kept_option a usable None h = kept_settled h.pending h

  -- a long name, of an option or a flag
  kept_long : (o : Option Rule) → IfSome o (IsUsable rules) → (v : Option Text) (h : Held)
      → Keeps (long_fault rules again o v h) h.rows (long_met rules o v h).0.rows
  kept_long None usable v h = λ _ fit. fit
  kept_long (Some a) usable (Some v) h = at_test (takes_values a) _ _ _ (kept_option a usable (Some v) h) (λ _ fit. fit)
  kept_long (Some a) usable None h = at_test (takes_values a) _ _ _ (kept_option a usable None h) (kept_reacted a usable [] h)

  -- what the next lemma shows of an argument of short names
  abbrev KeepsFlags : ℕ → Type 0
  KeepsFlags k = (flags : Text) (skip : ℕ) (so_far : Outcome) (h : Held)
      → Keeps (flags_fault rules again k flags skip h) h.rows (bundle_met rules k flags skip so_far h).0.rows

  -- an argument of short names, from one on
  kept_flags : (k : ℕ) → KeepsFlags k
  unfolding bundle_met flags_fault
  kept_flags zero flags skip so_far h = λ _ fit. fit
  kept_flags (suc k) flags skip so_far h = go (kept_flags k) (slice_get (chars flags) 0) skip
    where
      short : KeepsFlags k → (o : Option Rule) → IfSome o (IsUsable rules) → (rest : Text)
          → Keeps (short_fault rules again o rest h (flags_fault rules again k rest 0)) h.rows
          (short_met rules o rest h (bundle_met rules k rest 0 done)).0.rows
      short keeps None usable rest = λ _ fit. fit
      short keeps (Some a) usable rest = at_test (takes_values a) _ _ _ (kept_option a usable (attached_value rest) h)
          (kept_both _ _ _ (kept_reacted a usable [] h) (keeps rest 0 done (reacted rules a [] h)))

      go : KeepsFlags k → (o : Option ℕ) (skip : ℕ)
          → Keeps (bundle_step_fault rules again o flags skip h (flags_fault rules again k)) h.rows
          (bundle_step rules o flags skip so_far h (bundle_met rules k)).0.rows
      go keeps None skip = λ _ fit. fit
      go keeps (Some x) zero = short keeps (arg_by_short rules x) (of_rules _) (drop (length (encode_utf8 x)) flags)
      go keeps (Some x) (suc skip) = keeps (drop (length (encode_utf8 x)) flags) skip so_far h

  -- what a flag leaves to be done
  kept_after : (waiting : Waiting) (word : Text) (h : Held) (o : Outcome) → Fit h.rows → Fit (after_flag rules waiting word h o).0.rows
  kept_after waiting word h done fit = fit
  kept_after waiting word h (waits id) fit = fit
  kept_after (option id) word h o fit =
      elim (arg_by_id rules id) as (λ a. Fit (option_word a id word h).0.rows) [ None ↦ fit | Some a ↦ fit ]
  kept_after waiting word h o fit = fit

  -- an argument that looks like a flag
  kept_flag_word : (waiting : Waiting) (word : Text) (long : Option (Text × Option Text)) (h : Held)
      → Keeps (flag_word_fault rules again long word h) h.rows (long_or_other rules waiting word long h).0.rows
  kept_flag_word waiting word (Some p) h = λ no_fault fit.
      kept_after waiting word _ (long_met rules (arg_by_long rules p.0) p.1 h).1 (kept_long _ (of_rules _) p.1 h no_fault fit)
  kept_flag_word waiting word None h = go (short_of word)
    where
      go : (o : Option Text)
          → Keeps (option_map_or (λ flags. bundle_fault rules again flags h) o []) h.rows (short_or_plain rules waiting word o h).0.rows
      go None no_fault fit = kept_after waiting word h plain fit
      go (Some flags) no_fault fit =
          kept_after waiting word _ _ (kept_flags (length flags) flags h.skip plain (record h { skip = 0 }) no_fault fit)

  -- an argument, before or after `--`
  kept_word : (w : Walk) (word : Text) → Keeps (word_fault s [] w.is_trailing w.waiting word w.held) w.held.rows
      (word_met rules [] w.is_trailing w.waiting w.position word w.held).0.rows
  kept_word w word = at_test w.is_trailing _ _ _ (λ _ fit. fit) (go (subcommand_met [] w.waiting word))
    where
      go : (met : Option Text)
          → Keeps (other_fault s met word w.held) w.held.rows (subcommand_or_other rules met w.waiting w.position word w.held).0.rows
      go (Some name) = λ _ fit. fit
      go None = at_test (bytes_eq word (45 ∷ 45 ∷ [])) _ _ _ (λ _ fit. fit) (kept_flag_word w.waiting word (long_of word) w.held)

  -- what it leaves to be done
  kept_step : (word : Text) (w : Walk) (h : Held) (step : Step)
      → Keeps (step_fault s w.position h step) h.rows (after_step rules word w h step).held.rows
  kept_step word w h value = go (arg_by_index rules w.position)
    where
      go : (o : Option Rule) → Keeps (option_map_or (λ a. positional_fault rules again a h) o (stray_fault s)) h.rows
          (to_positional rules o word w h).held.rows
      go None = λ _ fit. fit
      go (Some a) = elim (cases_Bool (is_pending a h.pending && takes_several a)) [
        | inl takes_more ↦ rw takes_more (λ _ fit. fit)
        | inr settles ↦ rw settles (kept_settled h.pending h)
      ]
  kept_step word w h step = λ _ fit. fit

  -- the walk over all arguments
  pub kept_walk : (w : Walk) (words : List Text) → Keeps (walk_fault s [] w words) w.held.rows (fold (walked rules []) w words).held.rows
  unfolding walked walk_fault
  kept_walk w [] = λ _ fit. fit
  kept_walk w (word ∷ rest) = kept_both _ _ _ (go w.stopped) (kept_walk (walked rules [] w word) rest)
    where
      go : (o : Option (Text × List Text))
          → Keeps (turn_fault s [] (record w { stopped = o }) word) w.held.rows (walked_from rules [] o w word).held.rows
      go (Some p) = λ _ fit. fit
      go None =
          let met = word_met rules [] w.is_trailing w.waiting w.position word w.held in
          kept_both _ _ _ (kept_word w word) (kept_step word w met.0 met.1)

  -- the defaults of arguments that were not given
  pub kept_defaults : (arguments : List Rule) → AllOf (IsUsable rules) arguments → (rows : List Row)
      → Keeps (defaults_fault rows arguments) rows (fold with_default rows arguments)
  unfolding defaults_fault
  kept_defaults [] usable rows = λ _ fit. fit
  kept_defaults (a ∷ rest) usable rows =
      kept_both _ _ _ (go (has_row a.id rows) a.defaults) (kept_defaults rest usable.1 (with_default rows a))
    where
      go : (is_given : Bool) (ds : List Text) → Keeps (cond (is_given || is_empty ds) [] (given_default_fault a ds)) rows
          (cond is_given rows (default_rows a.id (reading_by a) ds rows))
      go true ds no_fault fit = fit
      go false [] no_fault fit = fit
      go false (d ∷ ds) no_fault fit =
          let has_defaults : is_empty (d ∷ ds) ≡ false = ne_eqb _ _ (λ none. omega arith) in
          kept_values a usable.0 DefaultValue (d ∷ ds) (omega arith) rows
          (both_none (rw has_defaults at no_fault)).1 fit
