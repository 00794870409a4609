-- What items take of a list, one after another.
use Rattle.std.proofs.Common.{◌≡◌, ℕ, zero, suc, ◌+◌, Bool, true, false, cond, List, [], ◌∷◌, ◌++◌, length, take, drop, slice_get, Option, None, refl, sym, ap, ◌∙◌, arith, append_assoc, append-nil}
use Rattle.std.specs.Prelude.{if◌then◌else◌, option_to_list, filter}
use Rattle.std.proofs.lemmas.List.{drop-drop}
use Rattle.gw_base.specs.Choose.{is_choose}
use Rattle.gw_base.specs.declared.ids.CtxNum.{CtxNum}
use Rattle.gw_msg.specs.declared.message.Action.{Action}
use Rattle.gw_msg.specs.declared.message.Command.{Command}
use Rattle.gw_table.specs.Unused.{owned}
use Rattle.gw_reserve.specs.Owned.{OwnedAction, first_owned, later_owned, is_adding, with_slots, slots_behind, with_owned, paired_commands, paired_actions}
use Rattle.gw_reserve.specs.Owners.{choices, chosen, adding, all_commands, all_adding, taken_by}
use Rattle.gw_reserve.proofs.Choices.{choices_suc, take_none, count-append, Moves}

pub take-plus : {X : Type 0} (k t : ℕ) (l : List X) → take k l ++ take t (drop k l) ≡ take (k + t) l
take-plus zero t l = let e : t ≡ 0 + t = omega arith in ap (λ (n : ℕ). take n l) e
take-plus {X} (suc k) t [] = take_none {X = X} t ∙ sym (take_none {X = X} (suc k + t))
take-plus (suc k) t (x ∷ xs) = let e : suc (k + t) ≡ suc k + t = omega arith in ap (λ l. x ∷ l) (take-plus k t xs) ∙ ap (λ (n : ℕ). take n (x ∷ xs)) e

drop_more : {X : Type 0} (k : ℕ) (l : List X) → drop k (drop 1 l) ≡ drop (suc k) l
drop_more k l = let e : 1 + k ≡ suc k = omega arith in drop-drop k 1 l ∙ ap (λ (n : ℕ). drop n l) e

-- how many of the items want one
abbrev pub count : {X : Type 0} → (X → Bool) → List X → ℕ
count wants xs = length (filter wants xs)

module _ {X Y : Type 0} (wants : X → Bool) where
  -- they own the first ones
  pub owned_taken : (xs : List X) (free : List Y) → owned (taken_by wants xs free) ≡ take (count wants xs) free
  owned_taken [] free = refl
  owned_taken (x ∷ xs) free = by (wants x) free (owned_taken xs free) (owned_taken xs (drop 1 free))
    where
      by : (b : Bool) (free : List Y) → owned (taken_by wants xs free) ≡ take (count wants xs) free → owned (taken_by wants xs (drop 1 free)) ≡ take (count wants xs) (drop 1 free)
          → owned ((if b then slice_get free 0 else None) ∷ taken_by wants xs (if b then drop 1 free else free)) ≡ take (length (cond b (x ∷ filter wants xs) (filter wants xs))) free
      by false free e f = e
      by true [] e f = f ∙ take_none {X = Y} (count wants xs)
      by true (y ∷ ys) e f = ap (λ l. y ∷ l) f

  pub taken-append : (xs ys : List X) (free : List Y) → taken_by wants (xs ++ ys) free ≡ taken_by wants xs free ++ taken_by wants ys (drop (count wants xs) free)
  taken-append [] ys free = refl
  taken-append (x ∷ xs) ys free = by (wants x) (taken-append xs ys free) (taken-append xs ys (drop 1 free))
    where
      by : (b : Bool) → taken_by wants (xs ++ ys) free ≡ taken_by wants xs free ++ taken_by wants ys (drop (count wants xs) free)
          → taken_by wants (xs ++ ys) (drop 1 free) ≡ taken_by wants xs (drop 1 free) ++ taken_by wants ys (drop (count wants xs) (drop 1 free))
          → (if b then slice_get free 0 else None) ∷ taken_by wants (xs ++ ys) (if b then drop 1 free else free)
          ≡ ((if b then slice_get free 0 else None) ∷ taken_by wants xs (if b then drop 1 free else free)) ++ taken_by wants ys (drop (length (cond b (x ∷ filter wants xs) (filter wants xs))) free)
      by false e f = ap (λ l. None ∷ l) e
      by true e f = ap (λ l. slice_get free 0 ∷ l) (f ∙ ap (λ (l : List Y). taken_by wants xs (drop 1 free) ++ taken_by wants ys l) (drop_more (count wants xs) free))

  -- there is one entry for each
  pub taken_length : (xs : List X) (free : List Y) → length (taken_by wants xs free) ≡ length xs
  taken_length [] free = refl
  taken_length (x ∷ xs) free = ap (λ (n : ℕ). suc n) (taken_length xs (if wants x then drop 1 free else free))

  pub behind_taken : (xs : List X) (free : List Y) (more : List (Option Y)) → drop (length xs) (taken_by wants xs free ++ more) ≡ more
  behind_taken [] free more = refl
  behind_taken (x ∷ xs) free more = behind_taken xs (if wants x then drop 1 free else free) more

-- ---- so each is paired with what its $ owns

-- the first of some choices, and then the rest
abbrev first_choice : {X : Type 0} → ℕ → List X → List (Option X)
first_choice k free = slice_get free 0 ∷ choices k (drop 1 free)

one_choice_more : {X : Type 0} (k j : ℕ) (free : List X) → choices (suc k + j) free ≡ first_choice (k + j) free
one_choice_more k j free = let e : suc k + j ≡ suc (k + j) = omega arith in ap (λ (n : ℕ). choices n free) e ∙ choices_suc (k + j) free

pairs_slots : (cs : List Command) (free : List ℕ) (more : List (Option ℕ)) (j : ℕ) → paired_commands (taken_by is_adding cs free ++ more) cs ≡ with_slots (choices (adding cs + j) free) cs
pairs_slots [] free more j = refl
pairs_slots (c ∷ cs) free more j = grind (arith, pairs_slots cs free more j, pairs_slots cs (drop 1 free) more j, one_choice_more)

behind_slots : (cs : List Command) (free : List ℕ) (j : ℕ) → slots_behind (choices (adding cs + j) free) cs ≡ choices j (drop (adding cs) free)
behind_slots [] free j = let e : 0 + j ≡ j = omega arith in ap (λ (n : ℕ). choices n free) e
behind_slots (c ∷ cs) free j = by (is_adding c) (behind_slots cs free j) (behind_slots cs (drop 1 free) j)
  where
    by : (b : Bool) → slots_behind (choices (adding cs + j) free) cs ≡ choices j (drop (adding cs) free) → slots_behind (choices (adding cs + j) (drop 1 free)) cs ≡ choices j (drop (adding cs) (drop 1 free))
        → slots_behind (if b then later_owned (choices (length (cond b (c ∷ filter is_adding cs) (filter is_adding cs)) + j) free) else choices (length (cond b (c ∷ filter is_adding cs) (filter is_adding cs)) + j) free) cs
        ≡ choices j (drop (length (cond b (c ∷ filter is_adding cs) (filter is_adding cs))) free)
    by false e f = e
    by true e f =
        ap (λ (p : List (Option ℕ)). slots_behind (later_owned p) cs) (one_choice_more (adding cs) j free)
        ∙ f ∙ ap (λ (l : List ℕ). choices j l) (drop_more (adding cs) free)

-- what requests take, an entry for each action and for each command, is what their $ own
pub pairs_owned : (asked : List Action) (numbers : List CtxNum) (free : List ℕ) → paired_actions (taken_by (λ a. is_choose a.ctx) asked numbers) (taken_by is_adding (all_commands asked) free) asked ≡ with_owned (choices (chosen asked) numbers) (choices (all_adding asked) free) asked
pairs_owned [] numbers free = refl
pairs_owned (a ∷ asked) numbers free =
    let cs : List Command = a.commands in
    let more : List (Option ℕ) = taken_by is_adding (all_commands asked) (drop (adding cs) free) in
    let entries : List (Option ℕ) = taken_by is_adding cs free ++ more in
    let own : List (Option ℕ) = choices (adding cs + all_adding asked) free in
    let taken : List (Option CtxNum) = taken_by (λ x. is_choose x.ctx) (a ∷ asked) numbers in
    let wanted : List (Option CtxNum) = choices (chosen (a ∷ asked)) numbers in
    let head : Option CtxNum → List (Option ℕ × Command) → List OwnedAction → List OwnedAction = λ n p l. record { sent = a; number = n; commands = p } ∷ l in
    ap (λ (s : List (Option ℕ)). paired_actions taken s (a ∷ asked)) (taken-append is_adding cs (all_commands asked) free)
    ∙ ap (λ (p : List (Option ℕ × Command)). head (first_owned taken) p (paired_actions (later_owned taken) (drop (length cs) entries) asked)) (pairs_slots cs free more (all_adding asked))
    ∙ ap (λ (s : List (Option ℕ)). head (first_owned taken) (with_slots own cs) (paired_actions (later_owned taken) s asked)) (behind_taken is_adding cs free more)
    ∙ by (is_choose a.ctx) (pairs_owned asked numbers (drop (adding cs) free)) (pairs_owned asked (drop 1 numbers) (drop (adding cs) free))
    ∙ ap (λ (s : List (Option ℕ)). head (if is_choose a.ctx then first_owned wanted else None) (with_slots own cs) (with_owned (if is_choose a.ctx then later_owned wanted else wanted) s asked)) (sym (behind_slots cs free (all_adding asked)))
    ∙ ap (λ (n : ℕ). with_owned wanted (choices n free) (a ∷ asked)) (sym (count-append is_adding cs (all_commands asked)))
  where
    by : (b : Bool)
        → paired_actions (taken_by (λ x. is_choose x.ctx) asked numbers) (taken_by is_adding (all_commands asked) (drop (adding a.commands) free)) asked ≡ with_owned (choices (chosen asked) numbers) (choices (all_adding asked) (drop (adding a.commands) free)) asked
        → paired_actions (taken_by (λ x. is_choose x.ctx) asked (drop 1 numbers)) (taken_by is_adding (all_commands asked) (drop (adding a.commands) free)) asked ≡ with_owned (choices (chosen asked) (drop 1 numbers)) (choices (all_adding asked) (drop (adding a.commands) free)) asked
        → record { sent = a; number = if b then slice_get numbers 0 else None; commands = with_slots (choices (adding a.commands + all_adding asked) free) a.commands } ∷ paired_actions (taken_by (λ x. is_choose x.ctx) asked (if b then drop 1 numbers else numbers)) (taken_by is_adding (all_commands asked) (drop (adding a.commands) free)) asked
        ≡ record { sent = a; number = if b then first_owned (choices (length (cond b (a ∷ filter (λ x. is_choose x.ctx) asked) (filter (λ x. is_choose x.ctx) asked))) numbers) else None; commands = with_slots (choices (adding a.commands + all_adding asked) free) a.commands }
        ∷ with_owned (if b then later_owned (choices (length (cond b (a ∷ filter (λ x. is_choose x.ctx) asked) (filter (λ x. is_choose x.ctx) asked))) numbers) else choices (length (cond b (a ∷ filter (λ x. is_choose x.ctx) asked) (filter (λ x. is_choose x.ctx) asked))) numbers) (choices (all_adding asked) (drop (adding a.commands) free)) asked
    by false e f = ap (λ (l : List OwnedAction). record { sent = a; number = None; commands = with_slots (choices (adding a.commands + all_adding asked) free) a.commands } ∷ l) e
    by true e f =
        ap (λ (l : List OwnedAction). record { sent = a; number = slice_get numbers 0; commands = with_slots (choices (adding a.commands + all_adding asked) free) a.commands } ∷ l) f
        ∙ ap (λ (p : List (Option CtxNum)). record { sent = a; number = first_owned p; commands = with_slots (choices (adding a.commands + all_adding asked) free) a.commands } ∷ with_owned (later_owned p) (choices (all_adding asked) (drop (adding a.commands) free)) asked) (sym (choices_suc (chosen asked) numbers))

-- ---- what was taken so far, and what the items that are left take, is all

pub record Takes {X Y : Type 0} (wants : X → Bool) (last : ℕ → List Y → ℕ) (so_far : List (Option Y)) (items : List X) (left : List Y) (now : ℕ) (all : List (Option Y)) (end : List Y) (final : ℕ) : Type 0 where
  pub given : so_far ++ taken_by wants items left ≡ all
  pub rest : drop (length (filter wants items)) left ≡ end
  pub cursor : last now (take (length (filter wants items)) left) ≡ final

module _ {X Y : Type 0} (wants : X → Bool) (last : ℕ → List Y → ℕ) (moves : Moves last) where
  pub take_none_more : (so_far : List (Option Y)) (items : List X) (left : List Y) (now : ℕ) (all : List (Option Y)) (end : List Y) (final : ℕ) → items ≡ [] → Takes wants last so_far items left now all end final → (so_far ≡ all) × (left ≡ end) × (now ≡ final)
  take_none_more so_far items left now all end final e t = (
    sym (append-nil so_far) ∙ ap (λ (l : List X). so_far ++ taken_by wants l left) (sym e) ∙ t.given,
    ap (λ (l : List X). drop (length (filter wants l)) left) (sym e) ∙ t.rest,
    sym (moves.none now) ∙ ap (λ (l : List X). last now (take (length (filter wants l)) left)) (sym e) ∙ t.cursor,
  )

  -- some items more
  pub take_some : (so_far new : List (Option Y)) (items front back : List X) (left after : List Y) (now moved : ℕ) (all : List (Option Y)) (end : List Y) (final : ℕ) → items ≡ front ++ back → new ≡ so_far ++ taken_by wants front left → after ≡ drop (length (filter wants front)) left → moved ≡ last now (take (length (filter wants front)) left)
      → Takes wants last so_far items left now all end final → Takes wants last new back after moved all end final
  take_some so_far new items front back left after now moved all end final e a b c t =
      let k : ℕ = length (filter wants front) in
      let j : ℕ = length (filter wants back) in
      let both : length (filter wants items) ≡ k + j = ap (λ (l : List X). length (filter wants l)) e ∙ count-append wants front back in
      record {
        given = ap (λ (l : List (Option Y)). l ++ taken_by wants back after) a ∙ ap (λ (l : List Y). (so_far ++ taken_by wants front left) ++ taken_by wants back l) b
            ∙ append_assoc so_far (taken_by wants front left) (taken_by wants back (drop k left)) ∙ ap (λ l. so_far ++ l) (sym (taken-append wants front back left)) ∙ ap (λ (l : List X). so_far ++ taken_by wants l left) (sym e) ∙ t.given;
        rest = ap (λ (l : List Y). drop j l) b ∙ drop-drop j k left ∙ ap (λ (i : ℕ). drop i left) (sym both) ∙ t.rest;
        cursor = ap (λ (i : ℕ). last i (take j after)) c ∙ ap (λ (l : List Y). last (last now (take k left)) (take j l)) b
            ∙ sym (moves.both now (take k left) (take j (drop k left))) ∙ ap (λ l. last now l) (take-plus k j left ∙ ap (λ (i : ℕ). take i left) (sym both)) ∙ t.cursor;
      }

  -- one item more
  pub take_one : (so_far new : List (Option Y)) (items rest : List X) (x : X) (y : Option Y) (left after : List Y) (now moved : ℕ) (all : List (Option Y)) (end : List Y) (final : ℕ) → items ≡ x ∷ rest → new ≡ so_far ++ y ∷ [] → y ≡ (if wants x then slice_get left 0 else None) → after ≡ (if wants x then drop 1 left else left) → moved ≡ last now (option_to_list y)
      → Takes wants last so_far items left now all end final → Takes wants last new rest after moved all end final
  take_one so_far new items rest x y left after now moved all end final e a f b c t =
      take_some so_far new items (x ∷ []) rest left after now moved all end final e
      (a ∙ ap (λ z. so_far ++ z ∷ []) f) (b ∙ behind (wants x) left)
      (c ∙ ap (λ (z : Option Y). last now (option_to_list z)) f ∙ ap (λ l. last now l) (taken (wants x) left)) t
    where
      behind : (b : Bool) (left : List Y) → (if b then drop 1 left else left) ≡ drop (length (cond b (x ∷ []) [])) left
      behind true left = refl
      behind false left = refl

      taken : (b : Bool) (left : List Y) → option_to_list (if b then slice_get left 0 else None) ≡ take (length (cond b (x ∷ []) [])) left
      taken true [] = refl
      taken true (z ∷ zs) = refl
      taken false left = refl
