-- What the words ask for, from what `clap` tells.
use Rattle.std.proofs.Common.{◌≡◌, ◌≤◌, ◌<◌, ◌+◌, ◌++◌, map, take, length, get_or, ◌∙◌, ◌&&◌, ◌||◌, ℕ, Bool, arith, cond, true, false, not, List, [], ◌∷◌, Option, Some, None, Result, Ok, Err, IfOk, refl, sym, ap, ap₂, subst, inl, inr, codes, is_some, true≢false, find}
use Rattle.std.specs.Prelude.{IfSome, IsOkAnd, option_map, unwrap_or, fold}
use Rattle.std.specs.Borrow.{Bor}
use Rattle.std.proofs.Math.Bool.{or-false}
use Rattle.std.proofs.lemmas.Slice.Eq.{bytes_eq-Decides}
use Rattle.std.specs.Str.{bytes_eq}
use Rattle.std.specs.Str.Parse.{ParsesUnsigned}
use Rattle.clap.proofs.WalkLemmas.{first_value-rows, one_text-rows, raw_values-rows}
use Rattle.clap.specs.Built.{AddsSubcommand}
use Rattle.clap.specs.Faults.{other_fault, step_fault, turn_fault, walk_fault, word_fault}
use Rattle.clap.specs.Kinds.{Kinds, or_else}
use Rattle.clap.specs.Matches.{ReadsOne, first_value, found_of, matched_of, one_text, raw_values, subcommand_name_of}
use Rattle.clap.specs.Simple.{App, Shape, app_of, built, entered, label_of, names_of, rows_at, subcommand_of, subcommand_rows_of, with_subcommand}
use Rattle.clap.specs.Walk.{Held, Names, Outcome, Row, Rule, Step, Text, Waiting, Walk, after_flag, after_step, answers_to, arg_by_index, arg_by_long, bundle, done, idle, long_met, long_or_other, next, nothing_held, one_of, option, plain_word, positional, rows_of, short_or_plain, subcommand, subcommand_met, subcommand_or_other, to_positional, trailing, value, waits, walk, walk_from, walked, walked_from, word_met}
use Rattle.clap.specs.Lexer.{long_of, short_of}
use Rattle.clap.specs.declared.builder.command.Command.{Command}
use Rattle.clap.specs.declared.builder.command.Command.TheViews.{out-Command as fields_of}
use Rattle.clap.specs.declared.parser.matches.ArgMatches.{ArgMatches}
use Rattle.clap.specs.declared.parser.matches.ArgMatches.TheViews.{out-ArgMatches, out-SubCommand}
use Rattle.clap.specs.declared.parser.matches.Found.{Found}
use Rattle.std.specs.Box.{box_value}
use Rattle.gw_program.specs.Commands.{alone, program_app}
use Rattle.clap.specs.declared.error.Error.{Error}
use Rattle.std.specs.List.{AllZip}
use Rattle.std.proofs.lemmas.List.{take_more}
use Rattle.gw_program.specs.Words.{AreRequested, HasNoAddress, IsCommand, IsFlag, IsKindOf, IsMistaken, IsNumber, IsUnnamedIn, controller_texts, given, mistake_kind, mistakes}
use Rattle.gw_program.specs.declared.mistake.Mistake.{Mistake}
use Rattle.gw_program.specs.declared.mistake.Mistake.TheVariants as mistake

-- ---- the commands

-- a command with one more below it
pub grown : {E : Type 0} (below : Result Command E) (old new : Command) (app : App) (shape : Shape) → app_of old ≡ app
    → IfOk below (λ c. app_of c ≡ alone shape)
    → IfOk below (λ c. (fields_of c).has_globals ≡ false) → IsOkAnd below (λ b. AddsSubcommand old b new)
    → app_of new ≡ with_subcommand app shape
grown (Ok b) old new app shape is below own added =
    added.shape own ∙ ap₂ with_subcommand is (ap (λ (a : App). a.top) below)
grown (Err e) old new app shape is below own added = absurd added

-- ---- what is read of a command's matches

pub text_given : (f : Found) (id : Text) (text : Option (Bor Text)) → option_map (λ s. s.now) text ≡ first_value f id
    → unwrap_or (option_map (λ s. s.now) text) [] ≡ given id (rows_of f)
text_given f id text e = ap (λ x. unwrap_or x []) (e ∙ first_value-rows f id)

pub flag_given : (f : Found) (id : Text) (flag : Bool) → (one_text f id ≡ None → flag ≡ false)
    → (one_text f id ≡ Some (codes "true") → flag ≡ true)
    → (one_text f id ≡ Some (codes "false") → flag ≡ false) → IsFlag (one_of id (rows_of f)) flag
flag_given f id flag none set unset =
    subst (λ (o : Option Text). IsFlag o flag) (one_text-rows f id) (go (one_text f id) none set unset)
  where
    go : (o : Option Text) → (o ≡ None → flag ≡ false) → (o ≡ Some (codes "true") → flag ≡ true)
        → (o ≡ Some (codes "false") → flag ≡ false) → IsFlag o flag
    go None n y f = n refl
    go (Some text) n y f = ((λ e. y (ap (λ (t : Text). Some t) e)), (λ e. f (ap (λ (t : Text). Some t) e)))

pub number_given : {E : Type 0} (f : Found) (id : Text) (number : Option ℕ) (gives : Text → Result ℕ E → Type 0)
    → ((text : Text) (r : Result ℕ E) → gives text r → ParsesUnsigned 64 10 text r)
    → (one_text f id ≡ None → number ≡ None) → ((text : Text) → one_text f id ≡ Some text → ReadsOne gives text number)
    → IsNumber (one_of id (rows_of f)) number
number_given {E} f id number gives parses none read =
    subst (λ (o : Option Text). IsNumber o number) (one_text-rows f id) (go (one_text f id) none read)
  where
    at : (text : Text) (n : Option ℕ) → ReadsOne gives text n → IsNumber (Some text) n
    at text (Some n) r = (parses text (Ok n) r).1
    at text None r = λ fits. parses text (Err r.0) r.1 (fits.0, fits.1)

    go : (o : Option Text) → (o ≡ None → number ≡ None) → ((text : Text) → o ≡ Some text → ReadsOne gives text number)
        → IsNumber o number
    go None n r = n refl
    go (Some text) n r = at text number (r text refl)

-- as many workers as the number says
pub workers_given : (text : Option Text) (number : Option ℕ) (workers : ℕ) → IsNumber text number
    → ((count : ℕ) → number ≡ Some count → 1 ≤ count → count ≤ 64 → workers ≡ count)
    → (number ≡ None → workers ≡ 1) → AreRequested text workers
workers_given None number workers read said alone = alone read
workers_given (Some text) (Some count) workers read said alone =
    λ fits. said count refl (subst (λ (n : ℕ). 1 ≤ n) (sym read) fits.2) (subst (λ (n : ℕ). n ≤ 64) (sym read) fits.3)
    ∙ read
workers_given (Some text) None workers read said alone =
    λ fits. absurd (read (fits.0, fits.1, omega arith, omega (arith, fits.1)))

-- two parts of what may be there, and both
pub in_both : {A B X Y : Type 0} (f : A → X) (g : A → Y) (a : Option A) (h : B → X) (k : B → Y) (b : Option B)
    → option_map f a ≡ option_map h b → option_map g a ≡ option_map (λ (p : X × Y). p.1)
    (option_map {U = X × Y} (λ x. (h x, k x)) b)
    → option_map {U = X × Y} (λ x. (f x, g x)) a ≡ option_map {U = X × Y} (λ x. (h x, k x)) b
in_both f g None h k None e1 e2 = refl
in_both f g None h k (Some b) e1 e2 = cc
in_both f g (Some a) h k None e1 e2 = cc
in_both f g (Some a) h k (Some b) e1 e2 = cc

-- the command that was found, and its matches
pub command_found : (m : ArgMatches) (found : Option (Bor Text × Bor ArgMatches))
    → option_map (λ p. p.0.now) found ≡ subcommand_name_of m
    → option_map (λ p. rows_of (found_of p.1.now)) found ≡ option_map (λ (p : Text × List Row). p.1)
    (subcommand_rows_of m)
    → option_map {U = Text × List Row} (λ p. (p.0.now, rows_of (found_of p.1.now))) found ≡ subcommand_rows_of m
command_found m found name rows =
    in_both (λ (p : Bor Text × Bor ArgMatches). p.0.now) (λ p. rows_of (found_of p.1.now)) found
    (λ b. (out-SubCommand (box_value b)).name.now) (λ b. rows_of (found_of (out-SubCommand (box_value b)).matches))
    (out-ArgMatches m).subcommand name rows

-- ---- a walk without a fault stops at no `help`

abbrev IsNotHelp : Option (Text × List Text) → Type 0
IsNotHelp stopped = IfSome stopped (λ p. bytes_eq p.0 (codes "help") ≡ false)

abbrev IsNoSubcommand : Step → Type 0
IsNoSubcommand (subcommand name) = ⊥
IsNoSubcommand _ = Unit

first_empty : (a b : Kinds) → or_else a b ≡ [] → a ≡ []
first_empty [] b e = refl
first_empty (k ∷ ks) b e = e

second_empty : (a b : Kinds) → or_else a b ≡ [] → b ≡ []
second_empty [] b e = e
second_empty (k ∷ ks) b e = cc

plain_step : (c : List Rule) (waiting : Waiting) (word : Text) (h : Held)
    → IsNoSubcommand (plain_word c waiting word h).1
plain_step c idle word h = tt
plain_step c (option id) word h = tt
plain_step c positional word h = tt

flag_step : (c : List Rule) (waiting : Waiting) (word : Text) (h : Held) (outcome : Outcome)
    → IsNoSubcommand (after_flag c waiting word h outcome).1
flag_step c waiting word h done = tt
flag_step c waiting word h (waits id) = tt
flag_step c waiting word h outcome = plain_step c waiting word h

short_step : (c : List Rule) (waiting : Waiting) (word : Text) (flags : Option Text) (h : Held)
    → IsNoSubcommand (short_or_plain c waiting word flags h).1
short_step c waiting word (Some flags) h = flag_step c waiting word (bundle c flags h).0 (bundle c flags h).1
short_step c waiting word None h = plain_step c waiting word h

long_step : (c : List Rule) (waiting : Waiting) (word : Text) (long : Option (Text × Option Text)) (h : Held)
    → IsNoSubcommand (long_or_other c waiting word long h).1
long_step c waiting word (Some p) h =
    flag_step c waiting word (long_met c (arg_by_long c p.0) p.1 h).0 (long_met c (arg_by_long c p.0) p.1 h).1
long_step c waiting word None h = short_step c waiting word (short_of word) h

goes_on : (c : List Rule) (word : Text) (w : Walk) (h : Held) (step : Step) → IsNotHelp w.stopped → IsNoSubcommand step
    → IsNotHelp (after_step c word w h step).stopped
goes_on c word w h (next waiting) ok none = ok
goes_on c word w h (trailing position) ok none = ok
goes_on c word w h (subcommand name) ok none = absurd none
goes_on c word w h value ok none = at (arg_by_index c w.position)
  where
    at : (a : Option Rule) → IsNotHelp (to_positional c a word w h).stopped
    at None = ok
    at (Some a) = tt

not_help : (s : Shape) (name word : Text) (h : Held) → s.disable_help_subcommand ≡ false
    → other_fault s (Some name) word h ≡ [] → bytes_eq name (codes "help") ≡ false
not_help s name word h enabled none = go (bytes_eq name (codes "help")) s.disable_help_subcommand enabled none
  where
    go : (b d : Bool) → d ≡ false → cond (b && not d)
        (Rattle.clap.specs.declared.error.kind.ErrorKind.TheVariants.DisplayHelp ∷ Rattle.clap.specs.declared.error.kind.ErrorKind.TheVariants.InvalidSubcommand ∷ []) [] ≡ [] → b ≡ false
    go false d e n = refl
    go true false e n = cc
    go true true e n = absurd (true≢false e)

-- one word of a walk that goes on
word_step : (s : Shape) (names : Names) (w : Walk) (word : Text) → s.disable_help_subcommand ≡ false
    → IsNotHelp w.stopped
    → word_fault s names w.is_trailing w.waiting word w.held ≡ []
    → IsNotHelp (after_step s.rules word w (word_met s.rules names w.is_trailing w.waiting w.position word w.held).0
    (word_met s.rules names w.is_trailing w.waiting w.position word w.held).1).stopped
word_step s names w word enabled ok none = go w.is_trailing none
  where
    other : (met : Option Text) → other_fault s met word w.held ≡ []
        → IsNotHelp (after_step s.rules word w (subcommand_or_other s.rules met w.waiting w.position word w.held).0
        (subcommand_or_other s.rules met w.waiting w.position word w.held).1).stopped
    other (Some name) n = not_help s name word w.held enabled n
    other None n = dashes (bytes_eq word (45 ∷ 45 ∷ []))
      where
        dashes : (b : Bool) → IsNotHelp (after_step s.rules word w
            (cond b (w.held, trailing w.position) (long_or_other s.rules w.waiting word (long_of word) w.held)).0
            (cond b (w.held, trailing w.position) (long_or_other s.rules w.waiting word (long_of word)
            w.held)).1).stopped
        dashes true = ok
        dashes false = goes_on s.rules word w _ _ ok (long_step s.rules w.waiting word (long_of word) w.held)

    go : (b : Bool) → word_fault s names b w.waiting word w.held ≡ []
        → IsNotHelp (after_step s.rules word w (word_met s.rules names b w.waiting w.position word w.held).0
        (word_met s.rules names b w.waiting w.position word w.held).1).stopped
    go true n = goes_on s.rules word w w.held value ok tt
    go false n = other (subcommand_met names w.waiting word) n

turn_step : (s : Shape) (names : Names) (w : Walk) (word : Text) → s.disable_help_subcommand ≡ false
    → IsNotHelp w.stopped → turn_fault s names w word ≡ []
    → IsNotHelp (walked s.rules names w word).stopped
unfolding walked
turn_step s names w word enabled ok none = go w.stopped ok none
  where
    go : (stopped : Option (Text × List Text)) → IsNotHelp stopped
        → cond (is_some stopped) [] (or_else (word_fault s names w.is_trailing w.waiting word w.held)
        (step_fault s w.position (word_met s.rules names w.is_trailing w.waiting w.position word w.held).0
        (word_met s.rules names w.is_trailing w.waiting w.position word w.held).1)) ≡ []
        → IsNotHelp (walked_from s.rules names stopped w word).stopped
    go (Some p) o n = o
    go None o n = word_step s names w word enabled ok (first_empty _ _ n)

walk_stops : (s : Shape) (names : Names) (w : Walk) (words : List Text) → s.disable_help_subcommand ≡ false
    → IsNotHelp w.stopped → walk_fault s names w words ≡ []
    → IsNotHelp (fold (walked s.rules names) w words).stopped
unfolding walk_fault
walk_stops s names w [] enabled ok none = ok
walk_stops s names w (word ∷ rest) enabled ok none =
    walk_stops s names (walked s.rules names w word) rest enabled
    (turn_step s names w word enabled ok (first_empty _ _ none)) (second_empty _ _ none)

abbrev top : Shape
top = (built program_app).top

-- words without a mistake stop at no `help`
sound_stop : (words : List Text) → mistakes words ≡ []
    → IsNotHelp (walk top.rules (names_of (built program_app)) nothing_held words).stopped
sound_stop words sound =
    walk_stops top (names_of (built program_app)) (walk_from nothing_held) words refl tt (first_empty _ _ sound)

abbrev IsEntered : Option (Text × List Row) → Type 0
IsEntered found = IfSome found (λ p. IsCommand p.0)

abbrev EachOf : List Shape → (Shape → Type 0) → Type 0
EachOf [] Q = Unit
EachOf (s ∷ rest) Q = Q s × EachOf rest Q

found_named : (p : Shape → Bool) (words : List Text) (subs : List Shape)
    → EachOf subs (λ s. p s ≡ true → IsCommand s.name) → IsEntered (option_map (λ s. rows_at s words) (find p subs))
found_named p words [] each = tt
found_named p words (s ∷ rest) each = go (p s) refl (found_named p words rest each.1)
  where
    go : (b : Bool) → p s ≡ b → IsEntered (option_map (λ s. rows_at s words) (find p rest))
        → IsEntered (option_map (λ s. rows_at s words) (cond b (Some s) (find p rest)))
    go true e h = each.0 e
    go false e h = h

no_help : (word : Text) → bytes_eq word (codes "help") ≡ false → (bytes_eq (codes "help") word || false) ≡ true → ⊥
no_help word ok e =
    let same : codes "help" ≡ word = (bytes_eq-Decides (codes "help") word).0 (sym (or-false (bytes_eq (codes "help") word)) ∙ e) in
    true≢false (subst (λ (w : Text). bytes_eq w (codes "help") ≡ false) (sym same) ok)

-- the command that a word names
entered_command : (stop : Option (Text × List Text)) → IsNotHelp stop → IsEntered (entered (built program_app) stop)
entered_command None ok = tt
entered_command (Some p) ok =
    found_named (λ s. answers_to p.0 (label_of s)) p.1 (built program_app).subs (
      (λ e. inl refl),
      (
        (λ e. inr (inl refl)),
        (
          (λ e. inr (inr (inl refl))),
          ((λ e. inr (inr (inr refl))), ((λ e. absurd (no_help p.0 ok e)), tt)),
        ),
      ),
    )

-- words without a mistake name one of the commands, or none
pub command_named : (words : List Text) → mistakes words ≡ []
    → IfSome (subcommand_of program_app words) (λ p. IsCommand p.0)
command_named words sound = entered_command _ (sound_stop words sound)

-- ---- mistakes

-- a relation to texts that are looked at through another value
pub zip_mapped : {A B C : Type 0} (R : B → C → Type 0) (f : A → B) (xs : List A) (ys : List C)
    → AllZip (λ x y. R (f x) y) xs ys → AllZip R (map f xs) ys
zip_mapped R f [] [] h = h
zip_mapped R f [] (y ∷ ys) h = absurd h
zip_mapped R f (x ∷ xs) [] h = absurd h
zip_mapped R f (x ∷ xs) (y ∷ ys) h = (h.0, zip_mapped R f xs ys h.1)

pub zip_last : {A B : Type 0} (R : A → B → Type 0) (xs : List A) (ys : List B) (x : A) (y : B) → AllZip R xs ys → R x y
    → AllZip R (xs ++ x ∷ []) (ys ++ y ∷ [])
zip_last R [] [] x y h r = (r, h)
zip_last R [] (b ∷ ys) x y h r = absurd h
zip_last R (a ∷ xs) [] x y h r = absurd h
zip_last R (a ∷ xs) (b ∷ ys) x y h r = (h.0, zip_last R xs ys x y h.1 r)

pub zip_more : {A B : Type 0} (R : A → B → Type 0) (xs : List A) (ys : List B) (i : ℕ) (d : A) (y : B) → i < length xs
    → AllZip R (take i xs) ys → R (get_or xs i d) y → AllZip R (take (i + 1) xs) (ys ++ y ∷ [])
zip_more {A} {B} R xs ys i d y within all r =
    subst (λ (l : List A). AllZip R l (ys ++ y ∷ [])) (sym (take_more xs i d within))
    (zip_last R (take i xs) ys (get_or xs i d) y all r)

-- the texts of the controllers
pub texts_given : (f : Found) (texts : Option (Bor (List (Bor Text))))
    → option_map (λ s. map (λ v. v.now) s.now) texts ≡ option_map raw_values (matched_of f (codes "CONTROLLER"))
    → unwrap_or (option_map (λ s. map (λ v. v.now) s.now) texts) [] ≡ controller_texts (rows_of f)
texts_given f texts e = ap (λ (o : Option (List Text)). unwrap_or o []) (e ∙ raw_values-rows f (codes "CONTROLLER"))

unnamed_words : (found : Option (Text × List Row)) (error : Error) → IsUnnamedIn found (mistake.Words error) → ⊥
unnamed_words None error h = h
unnamed_words (Some f) error h = h

-- what is wrong with a controller of the words
pub unnamed_mistaken : (words : List Text) (found : Option (Text × List Row)) (m : Mistake) → mistakes words ≡ []
    → found ≡ subcommand_of program_app words → IsUnnamedIn found m → IsMistaken words m
unnamed_mistaken words found (mistake.Words error) sound same h = absurd (unnamed_words found error h)
unnamed_mistaken words found (mistake.Controller text) sound same h =
    (sound, subst (λ (o : Option (Text × List Row)). IsUnnamedIn o (mistake.Controller text)) same h)
unnamed_mistaken words found mistake.NoMemory sound same h = tt

no_address : (found : Option (Text × List Row)) (text : Bor Text) → IsUnnamedIn found (mistake.Controller text)
    → HasNoAddress found
no_address None text h = h
no_address (Some f) text h = (text.now, h.0, h.1)

pub kind_of_mistake : (words : List Text) (m : Mistake) → IsMistaken words m → IsKindOf words (mistake_kind m)
kind_of_mistake words (mistake.Words error) h = elim h [
  | inl e ↦ inl e
  | inr a ↦ inr (inl a)
]
kind_of_mistake words (mistake.Controller text) h =
    inr (inr (refl, no_address (subcommand_of program_app words) text h.1))
kind_of_mistake words mistake.NoMemory h = inl refl
