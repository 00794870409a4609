-- How far the lines of a configuration have been read.
use Rattle.std.proofs.Common.{◌≡◌, ℕ, ◌+◌, ◌≤◌, true, false, List, [], ◌∷◌, ◌++◌, length, refl, ap, ap₂, sym, ◌∙◌, arith, append_assoc, length-append, inl, inr}
use Rattle.std.specs.Prelude.{Option, Some, None, is_some, ◌⊎◌, Err}
use Rattle.std.specs.List.{filter_map}
use Rattle.std.specs.Option.{option_to_list}
use Rattle.std.specs.Str.Lines.{lines}
use Rattle.std.proofs.lemmas.List.{append-nil}
use Rattle.std.proofs.lemmas.List.Elements.{filter_map-append}
use Rattle.gw_config.specs.declared.item.Item.{Item}
use Rattle.gw_config.specs.declared.item.Item.TheVariants.{Nothing, Mid, Media, Contexts, Slots, Members, Keep, Term}
use Rattle.gw_config.specs.declared.settings.Settings.{Settings}
use Rattle.gw_config.specs.declared.fault.ConfigTextFault.{ConfigTextFault}
use Rattle.gw_config.specs.declared.fault.ConfigTextFault.TheVariants.{Line, NoMemory}
use Rattle.gw_config.specs.ConfigTexts.{Says, AllSay, mid_in, media_in, contexts_in, slots_in, members_in, keep_in, term_in, IsRepeated, IsOnce, IsConfigReading}
use Rattle.gw_config.specs.Settings.{is_set, with_item, IsStep, IsWrong}

-- what the items have said
pub record IsSummary (s : Settings) (names : List (List ℕ)) (items : List Item) : Type 0 where
  pub mid : filter_map mid_in items ≡ option_to_list s.mid
  pub media : filter_map media_in items ≡ option_to_list s.media
  pub contexts : filter_map contexts_in items ≡ option_to_list s.contexts
  pub slots : filter_map slots_in items ≡ option_to_list s.slots
  pub members : filter_map members_in items ≡ option_to_list s.members
  pub keep : filter_map keep_in items ≡ option_to_list s.keep
  pub terms : filter_map term_in items ≡ names

-- so many lines of the text have been read, and rest is left
pub record IsPartway (text rest : List ℕ) (number : ℕ) (s : Settings) (names : List (List ℕ)) : Type 0 where
  pub before : List (List ℕ)
  pub items : List Item
  pub split : lines text ≡ before ++ lines rest
  pub count : length before ≡ number
  pub says : AllSay items before
  pub summary : IsSummary s names items

-- ---- one item more

-- an item says this of a keyword: nothing, and what was said of it stays; or what was not said before
abbrev IsNoted : {Y : Type 0} (said old new : Option Y) → Type 0
IsNoted said old new = ((said ≡ None) × (new ≡ old)) ⊎ ((is_some old ≡ false) × (new ≡ said))

joined : {Y : Type 0} (said old new : Option Y) → IsNoted said old new → option_to_list old ++ option_to_list said ≡ option_to_list new
joined said old new (inl e) = rw (e.0, e.1) (append-nil (option_to_list old))
joined said None new (inr e) = rw e.1 refl
joined said (Some y) new (inr e) = let free = e.0 in absurd cc

one : {Y : Type 0} (h : Item → Option Y) (x : Item) (o : Option Y) → h x ≡ o → filter_map h (x ∷ []) ≡ option_to_list o
one h x None e = rw e refl
one h x (Some y) e = rw e refl

more : {Y : Type 0} (h : Item → Option Y) (items : List Item) (x : Item) (l : List Y) → filter_map h items ≡ l → filter_map h (items ++ x ∷ []) ≡ l ++ option_to_list (h x)
more {Y} h items x l is = filter_map-append h items (x ∷ []) ∙ ap₂ (λ (a b : List Y). a ++ b) is (one h x (h x) refl)

noted : {Y : Type 0} (h : Item → Option Y) (items : List Item) (x : Item) (old new : Option Y) → IsNoted (h x) old new → filter_map h items ≡ option_to_list old → filter_map h (items ++ x ∷ []) ≡ option_to_list new
noted h items x old new n is = more h items x (option_to_list old) is ∙ joined (h x) old new n

mid_noted : (x : Item) (s : Settings) → is_set x s ≡ false → IsNoted (mid_in x) s.mid (with_item x s).mid
mid_noted (Mid v) s free = inr (free, refl)
mid_noted x s free = inl (refl, refl)

media_noted : (x : Item) (s : Settings) → is_set x s ≡ false → IsNoted (media_in x) s.media (with_item x s).media
media_noted (Media v) s free = inr (free, refl)
media_noted x s free = inl (refl, refl)

contexts_noted : (x : Item) (s : Settings) → is_set x s ≡ false → IsNoted (contexts_in x) s.contexts (with_item x s).contexts
contexts_noted (Contexts v) s free = inr (free, refl)
contexts_noted x s free = inl (refl, refl)

slots_noted : (x : Item) (s : Settings) → is_set x s ≡ false → IsNoted (slots_in x) s.slots (with_item x s).slots
slots_noted (Slots v) s free = inr (free, refl)
slots_noted x s free = inl (refl, refl)

members_noted : (x : Item) (s : Settings) → is_set x s ≡ false → IsNoted (members_in x) s.members (with_item x s).members
members_noted (Members v) s free = inr (free, refl)
members_noted x s free = inl (refl, refl)

keep_noted : (x : Item) (s : Settings) → is_set x s ≡ false → IsNoted (keep_in x) s.keep (with_item x s).keep
keep_noted (Keep v) s free = inr (free, refl)
keep_noted x s free = inl (refl, refl)

summed : (x : Item) (s : Settings) (names : List (List ℕ)) (items : List Item) → is_set x s ≡ false → IsSummary s names items → IsSummary (with_item x s) (names ++ option_to_list (term_in x)) (items ++ x ∷ [])
summed x s names items free h = record {
  mid = noted mid_in items x s.mid _ (mid_noted x s free) h.mid;
  media = noted media_in items x s.media _ (media_noted x s free) h.media;
  contexts = noted contexts_in items x s.contexts _ (contexts_noted x s free) h.contexts;
  slots = noted slots_in items x s.slots _ (slots_noted x s free) h.slots;
  members = noted members_in items x s.members _ (members_noted x s free) h.members;
  keep = noted keep_in items x s.keep _ (keep_noted x s free) h.keep;
  terms = more term_in items x names h.terms;
}

all_say : (items : List Item) (before : List (List ℕ)) (x : Item) (line : List ℕ) → AllSay items before → Says x line → AllSay (items ++ x ∷ []) (before ++ line ∷ [])
all_say [] [] x line h says = (says, tt)
all_say [] (l ∷ ls) x line h says = absurd h
all_say (i ∷ is) [] x line h says = absurd h
all_say (i ∷ is) (l ∷ ls) x line h says = (h.0, all_say is ls x line h.1 says)

-- ---- what is said once, twice and never

short : {Y : Type 0} (o : Option Y) (l : List Y) → l ≡ option_to_list o → length l ≤ 1
short None l e = omega (arith, ap length e)
short (Some y) l e = omega (arith, ap length e)

once : (s : Settings) (names : List (List ℕ)) (items : List Item) → IsSummary s names items → IsOnce items
once s names items h = record {
  mid = short s.mid _ h.mid;
  media = short s.media _ h.media;
  contexts = short s.contexts _ h.contexts;
  slots = short s.slots _ h.slots;
  members = short s.members _ h.members;
  keep = short s.keep _ h.keep;
}

not_nil : {Y : Type 0} (o : Option Y) (l : List Y) → is_some o ≡ true → l ≡ option_to_list o → ¬ (l ≡ [])
not_nil None l is e = absurd cc
not_nil (Some y) l is e = λ nil. absurd (omega (arith, ap length e, ap length nil))

repeated : (x : Item) (s : Settings) (names : List (List ℕ)) (items : List Item) → is_set x s ≡ true → IsSummary s names items → IsRepeated x items
repeated Nothing s names items is h = absurd cc
repeated (Mid v) s names items is h = not_nil s.mid _ is h.mid
repeated (Media v) s names items is h = not_nil s.media _ is h.media
repeated (Contexts v) s names items is h = not_nil s.contexts _ is h.contexts
repeated (Slots v) s names items is h = not_nil s.slots _ is h.slots
repeated (Members v) s names items is h = not_nil s.members _ is h.members
repeated (Keep v) s names items is h = not_nil s.keep _ is h.keep
repeated (Term v) s names items is h = absurd cc

-- ---- the loop

pub stepped : (text rest line behind : List ℕ) (number : ℕ) (s t : Settings) (names new : List (List ℕ)) → IsPartway text rest number s names → lines rest ≡ line ∷ lines behind → IsStep line s names t new → IsPartway text behind (number + 1) t new
stepped text rest line behind number s t names new h next step = record {
  before = h.before ++ line ∷ [];
  items = h.items ++ step.item ∷ [];
  split = h.split ∙ ap (λ (z : List (List ℕ)). h.before ++ z) next ∙ sym (append_assoc h.before (line ∷ []) (lines behind));
  count = omega (arith, length-append h.before (line ∷ []), h.count);
  says = all_say h.items h.before step.item line h.says step.says;
  summary = rw (step.settings, step.terms) (summed step.item s names h.items step.fresh h.summary);
}

wrong_reason : (line : List ℕ) (s : Settings) (names : List (List ℕ)) (items : List Item) → IsSummary s names items → ((item : Item) → ¬ Says item line) ⊎ ((item : Item) × Says item line × (is_set item s ≡ true)) → ((item : Item) → ¬ Says item line) ⊎ ((item : Item) × Says item line × IsRepeated item items)
wrong_reason line s names items h (inl none) = inl none
wrong_reason line s names items h (inr r) = inr (r.0, r.1, repeated r.0 s names items r.2 h)

pub stopped : (text rest line behind : List ℕ) (number told : ℕ) (s : Settings) (names : List (List ℕ)) (e : ConfigTextFault) → IsPartway text rest number s names → lines rest ≡ line ∷ lines behind → told ≡ number + 1 → IsWrong told line s e → IsConfigReading text (Err e)
stopped text rest line behind number told s names (Line n) h next is wrong = inl (record {
  before = h.before;
  line = line;
  after = lines behind;
  items = h.items;
  split = h.split ∙ ap (λ (z : List (List ℕ)). h.before ++ z) next;
  number_is = omega (arith, h.count, is, wrong.0);
  says = h.says;
  once = once s names h.items h.summary;
  wrong = wrong_reason line s names h.items h.summary wrong.1;
})
stopped text rest line behind number told s names NoMemory h next is wrong = tt
