-- What arguments are accepted, and the request that they make.
use Rattle.std.proofs.Common.{is_some, ◌≡◌, ◌⊎◌, ◌≤◌, ℕ, true, refl, ap, subst, inl, inr, List, Some, codes, arith, ◌∙◌, ◌<◌, ◌^◌, Bool}
use Rattle.std.proofs.Common.{false, Option, None, map, sym, [], ◌∷◌, IfSome, option_map, unwrap_or, bytes_eq, Bor}
use Rattle.std.proofs.lemmas.{Option.{IfSome_then, same_Some}, Bool.{and_parts, false_from_ne_true, ne_eqb}, Slice.Eq.{bytes_eq-Decides}}
use Rattle.std.specs.{List.{AllByRecursion as AllOf}, Str.Parse.{ExplainsUnsignedError, HasUnsignedDigitsIfOk, ParsesBool, ParsesUnsigned}}
use Rattle.clap.specs.Facts.{parser_of_value}
use Rattle.clap.specs.Words.{Accepts, Row, Rule, Text, reading_of, IsUnsignedIn, ReadsOne, all_of, matched_of, one_of, one_text, raw_values}
use Rattle.clap.specs.Words.{rows_of, App, HasKind, fault_of, is_simple, is_simple_and_free, subcommand_of}
use Rattle.clap.specs.Simple.{Shape, built, filled, with_index}
use Rattle.clap.specs.declared.{builder.value_parser.ValueParser.TheVariants.{Unsigned}, parser.matches.Found.{Found}, error.Error.{Error}}
use Rattle.clap.proofs.{OnLiterals.{clap_on_literals}, WalkLemmas.{one_text-rows, raw_values-rows}}
use Rattle.kalah_cli.specs.{file_rule, kalah_app, table_rule, workers_rule, AreMatches, MayHaveNumber, name_of_question, number_written}
use Rattle.kalah_cli.specs.{is_set, number_given, Task, IsAcceptedAs, Question, BestMove, Steps, Values, Moves, IsNoFlag, about_line}
use Rattle.kalah_cli.proofs.ClapLemmas.{Given, IsUsableIn, SatisfyAll, accepted_satisfies, arg_in, required_is_given, row_by_id}
use Rattle.kalah_cli.proofs.ClapLemmas.{text_is_accepted}
use Rattle.kalah_rules.specs.Position.{Position}
use Rattle.kalah_jobs.specs.Line.{Line.{Reads, without_cr}, Reading.{side_at, position_of_text}}
use Rattle.kalah_jobs.proofs.LineLemmas.{empty_is_no_line, line_is_read}

-- ==== what the matches of each subcommand have of its arguments

-- the subcommands, as they are built
abbrev subs : List Shape
subs = (built kalah_app).subs

-- each of them is found by its name, and each of its arguments by its id: this is found by computation, with the texts of the command line
-- opened (`clap_on_literals`)
pub usable : AllOf (IsUsableIn subs) subs
unfolding clap_on_literals
usable = assumption

rows_satisfy : (name : Text) (rows : List Row) → AreMatches name rows → SatisfyAll subs name rows
rows_satisfy name rows matches =
    subst (λ o. IfSome o (λ e. SatisfyAll subs e.0 e.1)) matches.2 (accepted_satisfies kalah_app matches.0 usable refl matches.1).1

-- the argument of the id, of the subcommand of the name
abbrev pub Takes : Text → Text → Rule → Type 0
Takes name id a = arg_in subs name id ≡ Some a

-- a number is in the range of its argument
pub may_have_number : {name : Text} {rows : List Row} (id : Text) {a : Rule} {least most : ℕ} → AreMatches name rows → Takes name id a
    → a.parser ≡ Some (Unsigned least most) → MayHaveNumber id least most rows
may_have_number {name} {rows} id {a} matches takes parser =
    let as_written = ap (λ p. reading_of (parser_of_value p)) parser in
    subst (λ p. IfSome (one_of id rows) (Accepts a.ignore_case (parser_of_value p))) parser
    (text_is_accepted a (row_by_id id rows) (rows_satisfy name rows matches id a takes) as_written)

-- one of at most 255 may be read as a byte
pub byte_ranged : {name : Text} {rows : List Row} (id : Text) {a : Rule} {least most : ℕ} → AreMatches name rows → Takes name id a
    → a.parser ≡ Some (Unsigned least most) → most ≤ 255 → MayHaveNumber id 0 255 rows
byte_ranged {rows = rows} id matches takes parser small = IfSome_then (one_of id rows) (may_have_number id matches takes parser)
    (λ t range. (range.0, range.1, omega arith, omega arith))

-- an argument that is required has a value
pub value_given : {name : Text} {rows : List Row} (id : Text) {a : Rule} → AreMatches name rows → Takes name id a
    → a.required ≡ true → Given a (row_by_id id rows)
value_given {name} {rows} id {a} matches takes required =
    required_is_given a (row_by_id id rows) (rows_satisfy name rows matches id a takes) required

-- an argument of a subcommand with files, as it is built
abbrev pub built_rule : Rule → Rule
built_rule a = with_index 1 (filled a)

-- the arguments of the subcommands with files
pub takes_files : (question : Question) → Takes (name_of_question question) (codes "workers") (built_rule workers_rule)
    × Takes (name_of_question question) (codes "file") (built_rule file_rule)
takes_files BestMove = (refl, refl)
takes_files question = (refl, refl)

-- the arguments of the subcommands with files that search
pub takes_table : (question : Question) → (question ≡ BestMove) ⊎ (question ≡ Values)
    → Takes (name_of_question question) (codes "table") (built_rule table_rule)
takes_table BestMove searches = refl
takes_table Values searches = refl
takes_table Steps searches = elim searches [ inl best ↦ cc | inr values ↦ cc ]

-- ==== what the getters of matches return, by the rows of the matches

cases_Option : {X : Type 0} (o : Option X) → (o ≡ None) ⊎ ((x : X) × (o ≡ Some x))
cases_Option None = inl refl
cases_Option (Some x) = inr (x, refl)

-- an option of pairs, by what a getter returns of the first and of the second parts
pub pair_got : {S A B R : Type 0} (n : S → A) (r : S → B) (s : Option S) (f : R → A) (g : R → B) {o : Option R} {p : R}
    → option_map f o ≡ option_map n s
    → option_map g o ≡ option_map (λ (p : A × B). p.1) (option_map {U = A × B} (λ b. (n b, r b)) s)
    → o ≡ Some p → option_map {U = A × B} (λ b. (n b, r b)) s ≡ Some (f p, g p)
pair_got n r None f g {p = p} first second found = let none : Some (f p) ≡ None = rw found at first in cc
pair_got n r (Some b) f g {p = p} first second found =
    let first_same : Some (f p) ≡ Some (n b) = rw found at first in
    let second_same : Some (g p) ≡ Some (r b) = rw found at second in
    cc

-- what was copied from the getter of values are all values under the name
pub values_are : (f : Found) (id : Text) {o : Option (Bor (List (Bor Text)))} {s : Bor (List (Bor Text))} {copied : List (Bor Text)}
    → option_map (λ s. map (λ v. v.now) s.now) o ≡ option_map raw_values (matched_of f id) → o ≡ Some s → copied ≡ s.now
    → all_of id (rows_of f) ≡ Some (map (λ v. v.now) copied)
values_are f id read found same =
    sym (raw_values-rows f id) ∙ sym read ∙ ap (option_map (λ s. map (λ v. v.now) s.now)) found
    ∙ ap (λ vs. Some (map (λ v. v.now) vs)) (sym same)

-- the getter of a type of numbers of this width returns the number under the name
pub number_read : (width least most : ℕ) (f : Found) (id : Text) {r : Option ℕ} → (one_text f id ≡ None → r ≡ None)
    → ((t : Text) → one_text f id ≡ Some t → ReadsOne
    (λ t x. ParsesUnsigned width 10 t x × ExplainsUnsignedError 10 t x × HasUnsignedDigitsIfOk t x) t r)
    → MayHaveNumber id least most (rows_of f) → most < 2 ^ width → r ≡ number_given id (rows_of f)
number_read width least most f id {r} absent value ranged fits = elim (cases_Option (one_of id (rows_of f))) [
  | inl none ↦ rw none (absent (one_text-rows f id ∙ none))
  | inr given ↦ rw given.1 (go r given.0 (rw given.1 at ranged) (value given.0 (one_text-rows f id ∙ given.1)))
]
  where
    go : (r : Option ℕ) (t : Text) → IsUnsignedIn least most t
        → ReadsOne (λ t x. ParsesUnsigned width 10 t x × ExplainsUnsignedError 10 t x × HasUnsignedDigitsIfOk t x) t r
        → r ≡ Some (number_written t)
    go (Some n) t range read = ap (λ n. Some n) read.0.1
    go None t range read = absurd (read.1.0 (range.0, omega arith))

pub in_range : (least most : ℕ) (o : Option Text) → IfSome o (IsUnsignedIn least most)
    → IfSome (option_map number_written o) (λ n. (least ≤ n) × (n ≤ most))
in_range least most None ranged = tt
in_range least most (Some t) ranged = (ranged.2, ranged.3)

-- what holds of a number that is there and of the default holds of either
pub or_default : (P : ℕ → Type 0) (o : Option ℕ) (default : ℕ) → IfSome o P → P default → P (unwrap_or o default)
or_default P None default of_number of_default = of_default
or_default P (Some n) default of_number of_default = of_number

-- the getter of a flag returns whether it is set
pub flag_read : (E : Type 0) (f : Found) (id : Text) {r : Option Bool} → (one_text f id ≡ None → r ≡ None)
    → ((t : Text) → one_text f id ≡ Some t → ReadsOne {E = E} ParsesBool t r) → unwrap_or r false ≡ is_set id (rows_of f)
flag_read E f id {r} absent value = elim (cases_Option (one_of id (rows_of f))) [
  | inl none ↦ rw (none, absent (one_text-rows f id ∙ none)) refl
  | inr given ↦ rw given.1 (go r given.0 (value given.0 (one_text-rows f id ∙ given.1)))
]
  where
    go : (r : Option Bool) (t : Text) → ReadsOne {E = E} ParsesBool t r → unwrap_or r false ≡ bytes_eq t (codes "true")
    go (Some true) t read = sym ((bytes_eq-Decides t (codes "true")).1 read)
    go (Some false) t read = rw read refl
    go None t read = sym (false_from_ne_true _ (λ equal. read.1.0 ((bytes_eq-Decides t (codes "true")).0 equal)))

-- ==== how the command line reads arguments, as laws over the definitions

pub accepted_at : {arguments given : List Text} {a : Task} → arguments ≡ given → IsAcceptedAs given a → IsAcceptedAs arguments a
accepted_at same accepted = rw same accepted

pub accepted_once : (arguments : List Text) (a b : Task) → IsAcceptedAs arguments a → IsAcceptedAs arguments b → a ≡ b
accepted_once arguments a b one other = same_Some a b (sym one.1 ∙ other.1)

-- `moves` and a plain argument are accepted as the moves of that line, with no boards
pub moves_accepted : (name line : Text) → IsNoFlag line
    → IsAcceptedAs (name ∷ codes "moves" ∷ line ∷ []) (about_line (Moves false) line)
unfolding clap_on_literals
moves_accepted name [] plain = absurd plain
moves_accepted name (x ∷ xs) plain =
    let no_flag = ne_eqb _ _ plain in
    (simp no_flag (refl {a = []}), simp no_flag (refl {a = Some (about_line (Moves false) (x ∷ xs))}))

-- ==== what a parse of the program's arguments makes of them

-- the parse of the program is exact
app_is_simple : is_simple_and_free kalah_app ≡ true
unfolding clap_on_literals
app_is_simple = refl

-- what is known of a parse that succeeds: the arguments have no fault, the matches are theirs, and they have a subcommand
pub record IsParsed (arguments : List Text) (o : Option (Text × List Row)) : Type 0 where
  pub no_fault : fault_of kalah_app arguments ≡ []
  pub matches : o ≡ subcommand_of kalah_app arguments
  pub entered : is_some o ≡ true

pub parsed : {X : Type 0} {a : App} {arguments : List Text} {o : Option (Text × List Row)} → a ≡ kalah_app
    → (is_simple_and_free a ≡ true → fault_of a arguments ≡ []) → (is_simple a ≡ true → X × (o ≡ subcommand_of a arguments))
    → IsParsed arguments o
parsed {a} {arguments} same faultless rows =
    let simple = ap is_simple_and_free same ∙ app_is_simple in
    let no_fault : fault_of kalah_app arguments ≡ [] = subst (λ b. fault_of b arguments ≡ []) same (faultless simple) in
    let matches = (rows (and_parts (is_simple a) _ simple).0).1 ∙ ap (λ b. subcommand_of b arguments) same in
    record {
      no_fault = no_fault;
      matches = matches;
      entered = ap is_some matches ∙ (accepted_satisfies kalah_app arguments usable refl no_fault).0;
    }

-- if a parse fails, the error has a kind of the arguments' fault
pub faulty : (a : App) (arguments : List Text) (e : Error) → a ≡ kalah_app
    → (is_simple_and_free a ≡ true → HasKind (fault_of a arguments) e) → HasKind (fault_of kalah_app arguments) e
faulty a arguments e same has_kind =
    subst (λ b. HasKind (fault_of b arguments) e) same (has_kind (ap is_simple_and_free same ∙ app_is_simple))

-- ==== lines

-- a line that is read is no flag, as no number begins with a dash
pub read_is_no_flag : (line : List ℕ) (p : Position) → Reads line p → IsNoFlag line
unfolding position_of_text side_at
read_is_no_flag [] p reads = empty_is_no_line p reads.form
read_is_no_flag (byte ∷ []) p reads = λ dash.
    let none : None ≡ Some p = line_is_read (45 ∷ []) p (rw dash at reads).form in
    cc
read_is_no_flag (byte ∷ more ∷ rest) p reads = λ dash.
    let none : None ≡ Some p =
    line_is_read (45 ∷ without_cr (more ∷ rest)) p (rw dash at reads).form in
    cc
