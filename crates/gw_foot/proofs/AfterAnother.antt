-- The keys of a request in other maps: after others, they are among its own and theirs; where the maps agree at its keys, they are
-- the same.
use Rattle.std.proofs.Common.{◌≡◌, ℕ, Bool, true, false, List, [], ◌∷◌, ◌++◌, map, Option, None, Some, refl, sym, ap, subst}
use Rattle.std.specs.List.{flat_map}
use Rattle.gw_base.specs.declared.ids.CtxNum.{CtxNum}
use Rattle.gw_base.specs.declared.command_words.CtxRef.{CtxRef}
use Rattle.gw_base.specs.declared.key.Key.{Key}
use Rattle.gw_base.specs.declared.key.Key.TheVariants.{Term, Ctx, Whole}
use Rattle.gw_base.specs.declared.term_ref.TermRef.{TermRef}
use Rattle.gw_base.specs.declared.term_ref.TermRef.TheVariants as term_ref
use Rattle.gw_base.specs.Keys.{has, same_key}
use Rattle.gw_base.proofs.KeyTests.{any-append_left, any-append_right, has-head}
use Rattle.gw_msg.specs.declared.message.Command.{Command}
use Rattle.gw_table.specs.Maps.{Maps, term, ctx, place_of, members_of}
use Rattle.gw_table.specs.Parts.{Only, IsPart, Holds}
use Rattle.gw_table.proofs.Frames.{Agree, agree_less}
use Rattle.gw_table.proofs.Growth.{Grows}
use Rattle.gw_cmd.specs.Keys.{every_key, keys_if, place_key, name_keys}
use Rattle.gw_reserve.specs.Owned.{OwnedAction}
use Rattle.gw_tx.specs.Footprints.{is_for_each, one_context, stands_for_all, keys_of_members, named_keys, keys_in_action, keys_of_links, action_footprint, footprint_of}
use Rattle.gw_tx.specs.Properties.{linked_names}
use Rattle.gw_tx.proofs.HeldKeys.{each_held, action_stays}

-- keys that hold a footprint hold it while nobody but they is new
pub held_after : (keys : List Key) (owners : List OwnedAction) (m n : Maps) → Holds (Only keys) (footprint_of owners m) → (has keys Whole ≡ true → IsPart (Only keys) n) → Grows (Only keys) m n → Holds (Only keys) (footprint_of owners n)
held_after keys owners m n h p g = each_held (Only keys) (λ a. action_footprint a m) (λ a. action_footprint a n) (action_stays (Only keys) m n p g) owners h

-- ---- maps that agree at the keys

agree_left : (a b : List Key) (m n : Maps) → Agree (a ++ b) m n → Agree a m n
agree_left a b m n g = agree_less a (a ++ b) m n (λ k h. any-append_left (same_key k) a b h) g

agree_right : (a b : List Key) (m n : Maps) → Agree (a ++ b) m n → Agree b m n
agree_right a b m n g = agree_less b (a ++ b) m n (λ k h. any-append_right (same_key k) a b h) g

every_same : (b : Bool) (m n : Maps) → Agree (keys_if b (every_key m)) m n → keys_if b (every_key n) ≡ keys_if b (every_key m)
every_same true m n g = ap (λ (x : Maps). every_key x) (sym (g.whole refl))
every_same false m n g = refl

-- the context of an action has the same entry
abbrev SameContext : Option CtxNum → Maps → Maps → Type 0
SameContext o m n = (k : CtxNum) → o ≡ Some k → ctx m k ≡ ctx n k

same_context : (o : Option CtxNum) (m n : Maps) → Agree (place_key o) m n → SameContext o m n
same_context None m n g k e = absurd cc
same_context (Some p) m n g k e = let same : p ≡ k = cc in subst (λ (x : CtxNum). ctx m x ≡ ctx n x) same (g.contexts p (has-head (Ctx p) []))

members_same : (o : Option CtxNum) (m n : Maps) → SameContext o m n → keys_of_members o n ≡ keys_of_members o m
members_same None m n f = refl
members_same (Some k) m n f = ap (λ o. map Term (members_of o)) (sym (f k refl))

named_same : (o : Option CtxNum) (slot : Option ℕ) (c : Command) (m n : Maps) (r : TermRef) → Agree (named_keys o slot c m r) m n → SameContext o m n → named_keys o slot c n r ≡ named_keys o slot c m r
named_same o slot c m n (term_ref.Name t) g f = ap (λ x. Term t ∷ place_key (place_of x)) (sym (g.terms t (has-head (Term t) (place_key (place_of (term m t))))))
named_same o slot c m n term_ref.Choose g f = refl
named_same o slot c m n term_ref.All g f = members_same o m n f
named_same o slot c m n (term_ref.Under prefix) g f = members_same o m n f
named_same o slot c m n term_ref.Root g f = refl
named_same o slot c m n (term_ref.Other text) g f = refl

commands_same : (sent : CtxRef) (number : Option CtxNum) (m n : Maps) → SameContext (one_context sent number) m n → (ps : List (Option ℕ × Command)) → Agree (flat_map (keys_in_action sent number m) ps) m n → flat_map (keys_in_action sent number n) ps ≡ flat_map (keys_in_action sent number m) ps
commands_same sent number m n f [] g = refl
commands_same sent number m n f (p ∷ ps) g =
    let all : List Key = keys_if (stands_for_all sent p.1) (every_key m) in
    let mine : List Key = named_keys (one_context sent number) p.0 p.1 m p.1.term in
    let later : List Key = flat_map (keys_in_action sent number m) ps in
    let front : Agree (all ++ mine) m n = agree_left (all ++ mine) later m n g in
    let a : keys_if (stands_for_all sent p.1) (every_key n) ≡ all = every_same (stands_for_all sent p.1) m n (agree_left all mine m n front) in
    let b : named_keys (one_context sent number) p.0 p.1 n p.1.term ≡ mine = named_same (one_context sent number) p.0 p.1 m n p.1.term (agree_right all mine m n front) f in
    let c : flat_map (keys_in_action sent number n) ps ≡ later = commands_same sent number m n f ps (agree_right (all ++ mine) later m n g) in
    λ i. (a i ++ b i) ++ c i

links_same : (m n : Maps) (ts : List (List ℕ)) → Agree (flat_map (λ t. name_keys t m) ts) m n → flat_map (λ t. name_keys t n) ts ≡ flat_map (λ t. name_keys t m) ts
links_same m n [] g = refl
links_same m n (t ∷ ts) g =
    let later : List Key = flat_map (λ t. name_keys t m) ts in
    let x : name_keys t n ≡ name_keys t m = ap (λ x. Term t ∷ place_key (place_of x)) (sym ((agree_left (name_keys t m) later m n g).terms t (has-head (Term t) (place_key (place_of (term m t)))))) in
    let y : flat_map (λ t. name_keys t n) ts ≡ later = links_same m n ts (agree_right (name_keys t m) later m n g) in
    λ i. x i ++ y i

action_same : (a : OwnedAction) (m n : Maps) → Agree (action_footprint a m) m n → action_footprint a n ≡ action_footprint a m
action_same a m n g =
    let all : List Key = keys_if (is_for_each a.sent.ctx) (every_key m) in
    let one : List Key = place_key (one_context a.sent.ctx a.number) in
    let requested : List Key = flat_map (keys_in_action a.sent.ctx a.number m) a.commands in
    let links : List Key = keys_of_links a m in
    let named : Agree (all ++ one ++ requested) m n = agree_left (all ++ one ++ requested) links m n g in
    let front : Agree (all ++ one) m n = agree_left (all ++ one) requested m n named in
    let there : SameContext (one_context a.sent.ctx a.number) m n = same_context (one_context a.sent.ctx a.number) m n (agree_right all one m n front) in
    let x : keys_if (is_for_each a.sent.ctx) (every_key n) ≡ all = every_same (is_for_each a.sent.ctx) m n (agree_left all one m n front) in
    let y : flat_map (keys_in_action a.sent.ctx a.number n) a.commands ≡ requested = commands_same a.sent.ctx a.number m n there a.commands (agree_right (all ++ one) requested m n named) in
    let z : keys_of_links a n ≡ links = links_same m n (linked_names a.sent.props) (agree_right (all ++ one ++ requested) links m n g) in
    λ i. ((x i ++ one) ++ y i) ++ z i

pub footprint_same : (owners : List OwnedAction) (m n : Maps) → Agree (footprint_of owners m) m n → footprint_of owners n ≡ footprint_of owners m
footprint_same [] m n g = refl
footprint_same (a ∷ more) m n g =
    let x : action_footprint a n ≡ action_footprint a m = action_same a m n (agree_left (action_footprint a m) (footprint_of more m) m n g) in
    let y : footprint_of more n ≡ footprint_of more m = footprint_same more m n (agree_right (action_footprint a m) (footprint_of more m) m n g) in
    λ i. x i ++ y i
