-- The reader of a tail reads its form.
use Rattle.std.proofs.lemmas.Grind.{common_steps}
use Rattle.std.proofs.Common.{◌≡◌, ◌⊎◌, inl, inr, ℕ, Bool, true, false, List, [], ◌++◌, Option, Some, None, refl, ap, sym, subst, ◌∙◌, append-nil, arith}
use Rattle.gw_base.specs.Lang.{Both, ◌▹◌}
use Rattle.gw_text.specs.Lexical.{is_safe, is_solid, equals_sign, left_brace, is_space_start}
use Rattle.gw_text.specs.Space.{IsSpace}
use Rattle.gw_text.specs.Runs.{begins, is_byte, NoMore}
use Rattle.gw_text.specs.Sign.{sign_at}
use Rattle.gw_text.specs.Forms.{IsWord, IsSign}
use Rattle.gw_text.specs.Reader.{◌>>=◌, group_read, if_begins, word_read}
use Rattle.gw_text.proofs.FormLaws.{no_space, sign_ends, sign_other, BeginsWith, begins_wider, byte_is_solid, safe_apart, both_begins, both_ends, both_other, begins_ends, with_second, group_begins, ahead_ends}
use Rattle.gw_text.proofs.ReaderLaws.{ReadsUp, Same, Skipped, Any, up_as, up_next, up_skipped, up_then, up_last, up_done, up_if_sign, up_if_ahead, up_if_begins, same_up, up_group}
use Rattle.gw_desc.specs.declared.descriptor.Tail.{Tail}
use Rattle.gw_desc.specs.Grammar.{Kept, request_depth, SpellsGroup, SpellsOptionalWord, SpellsEquals, SpellsOptionalGroup, IsThere, SpellsTail}
use Rattle.gw_desc.specs.Reading.{optional_group_at, group_tail_at, word_tail_at, bare_tail_at, tail_at, AfterTail}
use Rattle.gw_desc.proofs.Texts.{first_two, last_two, with_first_part, sign_takes_space, ahead_other, safe_is_not, word_reads, kept_solid, kept_begins}

-- ---- groups

abbrev AGroup : Option (List ℕ) → List ℕ → Type 0
AGroup o text = (g : List ℕ) × (Some g ≡ o) × SpellsGroup g text

abbrev NoGroup : Option (List ℕ) → List ℕ → Type 0
NoGroup o text = (None ≡ o) × (text ≡ [])

-- no group comes next
abbrev pub WithoutGroup : List ℕ → Type 0
WithoutGroup rest = sign_at left_brace rest ≡ None

optional_to : (o : Option (List ℕ)) (text : List ℕ) → (Both IsSpace (AGroup o) text ⊎ NoGroup o text) → SpellsOptionalGroup o text
optional_to o text h = grind arith

optional_from : (o : Option (List ℕ)) (text : List ℕ) → SpellsOptionalGroup o text → (Both IsSpace (AGroup o) text ⊎ NoGroup o text)
optional_from o text h = grind arith

pub optional_group_reads : ReadsUp optional_group_at SpellsOptionalGroup WithoutGroup Same Same
unfolding optional_group_at
optional_group_reads =
    up_as (up_if_ahead left_brace (λ text. group_read request_depth text >>= λ g. Some (Some g.0, g.1)) (λ text. Some (None, text)) AGroup NoGroup WithoutGroup Same Same refl same_up
    (up_next (up_last (group_read request_depth) (λ g. Some g) SpellsGroup Any Same Same (up_group request_depth)) (λ rest n. tt))
    (up_done None WithoutGroup Same)
    (λ o text h. group_begins request_depth text h.2.1)
    (λ o front rest q n. ap (λ (x : List ℕ). sign_at left_brace (x ++ rest)) q.1 ∙ n))
    optional_to optional_from

-- a group that may be there ends what it does not go on with
pub group_ends : (p : ℕ → Bool) → ((c : ℕ) → is_space_start c ≡ true → p c ≡ false) → p left_brace ≡ false → (o : Option (List ℕ)) (front rest : List ℕ) → SpellsOptionalGroup o front → NoMore p rest → NoMore p (front ++ rest)
group_ends p apart other None front rest h n = ap (λ (x : List ℕ). begins p (x ++ rest)) h ∙ n
group_ends p apart other (Some g) front rest h n = ahead_ends p left_brace (SpellsGroup g) apart other (λ text s. group_begins request_depth text s.1) front rest h

pub group_other : (b : ℕ) → is_byte left_brace b ≡ false → (o : Option (List ℕ)) (front rest : List ℕ) → SpellsOptionalGroup o front → sign_at b rest ≡ None → sign_at b (front ++ rest) ≡ None
group_other b other None front rest h n = ap (λ (x : List ℕ). sign_at b (x ++ rest)) h ∙ n
group_other b other (Some g) front rest h n = ahead_other left_brace b (SpellsGroup g) refl other (λ text s. group_begins request_depth text s.1) front rest h

-- ---- tails

abbrev tail_of : Bool → Option (List ℕ) → Option (List ℕ) → Tail (List ℕ)
tail_of equals word group = record { equals = equals; word = word; group = group }

abbrev GroupTail : Tail (List ℕ) → List ℕ → Type 0
GroupTail t text = (g : List ℕ) × (tail_of true None (Some g) ≡ t) × SpellsGroup g text

abbrev WordRest : List ℕ → Tail (List ℕ) → List ℕ → Type 0
WordRest w t text = (g : Option (List ℕ)) × (tail_of true (Some w) g ≡ t) × SpellsOptionalGroup g text

abbrev WordTail : Tail (List ℕ) → List ℕ → Type 0
WordTail t text = (w : List ℕ) × Both (Kept IsWord w) (WordRest w t) text

abbrev BareTail : Tail (List ℕ) → List ℕ → Type 0
BareTail t text = (g : Option (List ℕ)) × (tail_of false None g ≡ t) × SpellsOptionalGroup g text

abbrev BehindEquals : Tail (List ℕ) → List ℕ → Type 0
BehindEquals t text = GroupTail t text ⊎ WordTail t text

group_tail_reads : ReadsUp group_tail_at GroupTail AfterTail Same Same
group_tail_reads = up_next (up_last (group_read request_depth) (λ g. tail_of true None (Some g)) SpellsGroup Any Same Same (up_group request_depth)) (λ rest n. tt)

optional_reads : (make : Option (List ℕ) → Tail (List ℕ)) → ReadsUp (λ text. optional_group_at text >>= λ g. Some (make g.0, g.1)) (λ t text. (g : Option (List ℕ)) × (make g ≡ t) × SpellsOptionalGroup g text) AfterTail Same Same
optional_reads make = up_next (up_last optional_group_at make SpellsOptionalGroup WithoutGroup Same Same optional_group_reads) (λ rest n. n.group)

word_tail_reads : ReadsUp word_tail_at WordTail AfterTail Same Same
word_tail_reads =
    up_then word_read (λ w text. optional_group_at text >>= λ g. Some (tail_of true (Some w) g.0, g.1)) (Kept IsWord) WordRest (NoMore is_safe) AfterTail Same Same Same
    word_reads
    (λ w. optional_reads (tail_of true (Some w)))
    (λ w t front rest q n. group_ends is_safe safe_apart refl q.0 front rest q.2 n.word)

word_tail_begins : BeginsWith is_safe WordTail
word_tail_begins t text h = both_begins is_safe (Kept IsWord h.0) (WordRest h.0 t) (kept_begins h.0) text h.1

behind_solid : BeginsWith is_solid BehindEquals
behind_solid t text h =
    elim h [
      | inl g ↦ begins_wider (is_byte left_brace) is_solid (byte_is_solid left_brace refl) text (group_begins request_depth text g.2.1)
      | inr w ↦ both_begins is_solid (Kept IsWord w.0) (WordRest w.0 t) (kept_solid w.0) text w.1
    ]

behind_reads : ReadsUp (if_begins (is_byte left_brace) group_tail_at word_tail_at) BehindEquals AfterTail Skipped Same
behind_reads =
    up_skipped behind_solid (up_if_begins (is_byte left_brace) group_tail_at word_tail_at GroupTail WordTail AfterTail Same
    group_tail_reads word_tail_reads
    (λ t text h. group_begins request_depth text h.2.1)
    (λ t front rest q n. begins_ends is_safe (is_byte left_brace) (safe_is_not left_brace refl) front rest (word_tail_begins t front q)))

-- ---- in other words

-- `=` alone
equals_alone : (text : List ℕ) → IsSign equals_sign text → (IsSign equals_sign ▹ SpellsOptionalWord None) text
equals_alone text h = record { front = text; back = []; split = sym (append-nil text); first = h; second = refl }

alone_equals : (text : List ℕ) → (IsSign equals_sign ▹ SpellsOptionalWord None) text → IsSign equals_sign text
alone_equals text h = subst (IsSign equals_sign) (sym (append-nil h.front) ∙ ap (λ (x : List ℕ). h.front ++ x) (sym h.second) ∙ sym h.split) h.first

tail_to : (t : Tail (List ℕ)) (text : List ℕ) → (Both (IsSign equals_sign) (BehindEquals t) text ⊎ BareTail t text) → SpellsTail t text
tail_to t text h =
    elim h [
      | inl b ↦ elim b.second [
        | inl g ↦
            let d = with_second b (record { front = []; back = b.back; split = refl; first = no_space; second = g.2 }) in
            subst (λ (u : Tail (List ℕ)). SpellsTail u text) g.1 (record { words = with_first_part d (equals_alone d.front d.first); behind = λ w. absurd w; some = λ e. inr tt })
        | inr w ↦ let c = w.1 in subst (λ (u : Tail (List ℕ)). SpellsTail u text) c.second.1 (record { words = first_two (with_second b (with_second c c.second.2)); behind = λ w. refl; some = λ e. inl tt })
      ]
      | inr g ↦ subst (λ (u : Tail (List ℕ)). SpellsTail u text) g.1 (record { words = record { front = []; back = text; split = refl; first = refl; second = g.2 }; behind = λ w. absurd w; some = λ e. absurd cc })
    ]

bare_back : (g : Option (List ℕ)) (text front back : List ℕ) → text ≡ front ++ back → front ≡ [] → SpellsOptionalGroup g back → SpellsOptionalGroup g text
bare_back g text front back split none h = subst (SpellsOptionalGroup g) (sym (split ∙ ap (λ (x : List ℕ). x ++ back) none)) h

parts_from : (equals : Bool) (word group : Option (List ℕ)) (text : List ℕ) → (SpellsEquals equals word ▹ SpellsOptionalGroup group) text → (IsThere word → equals ≡ true) → (equals ≡ true → IsThere word ⊎ IsThere group) → Both (IsSign equals_sign) (BehindEquals (tail_of equals word group)) text ⊎ BareTail (tail_of equals word group) text
parts_from false None group text b behind some = inr (group, refl, bare_back group text b.front b.back b.split b.first b.second)
parts_from false (Some w) group text b behind some = let e : false ≡ true = behind tt in absurd cc
parts_from true None None text b behind some = grind arith
parts_from true None (Some g) text b behind some = let c = sign_takes_space equals_sign (with_first_part b (alone_equals b.front b.first)) in inl (with_second c (inl (g, refl, c.second)))
parts_from true (Some w) group text b behind some = let c = last_two b in inl (with_second c (inr (w, with_second c.second (group, refl, c.second.second))))

pub tail_reads : ReadsUp tail_at SpellsTail AfterTail Same Same
unfolding tail_at
tail_reads =
    up_as (up_if_sign equals_sign (if_begins (is_byte left_brace) group_tail_at word_tail_at) bare_tail_at BehindEquals BareTail AfterTail Same Same refl same_up
    behind_reads (optional_reads (tail_of false None))
    (λ t front rest q n. group_other equals_sign refl q.0 front rest q.2 n.equals))
    tail_to (λ t text h. parts_from t.equals t.word t.group text h.words h.behind h.some)

-- a sign of another kind may follow a tail
pub sign_after_tail : (b : ℕ) → is_space_start b ≡ false → is_safe b ≡ false → is_byte equals_sign b ≡ false → is_byte left_brace b ≡ false → (front more : List ℕ) → IsSign b front → AfterTail (front ++ more)
sign_after_tail b solid safe equals brace front more h = record {
  word = sign_ends is_safe b front more safe_apart safe h;
  equals = sign_other b equals_sign front more solid equals h;
  group = sign_other b left_brace front more solid brace h;
}

-- ---- what a tail does not go on with

equals_ends : (e : Bool) (w : Option (List ℕ)) (front rest : List ℕ) → SpellsEquals e w front → NoMore is_safe rest → NoMore is_safe (front ++ rest)
equals_ends false w front rest h n = ap (λ (x : List ℕ). begins is_safe (x ++ rest)) h ∙ n
equals_ends true None front rest h n = sign_ends is_safe equals_sign front rest safe_apart refl (alone_equals front h)
equals_ends true (Some w) front rest h n = both_ends is_safe equals_sign (Kept IsWord w) front rest safe_apart refl h

pub tail_ends : (t : Tail (List ℕ)) (front rest : List ℕ) → SpellsTail t front → AfterTail rest → NoMore is_safe (front ++ rest)
tail_ends t front rest h n = grind (arith, common_steps, equals_ends, group_ends, safe_apart)

equals_other : (b : ℕ) → is_byte b equals_sign ≡ false → (e : Bool) (w : Option (List ℕ)) (front rest : List ℕ) → SpellsEquals e w front → sign_at b rest ≡ None → sign_at b (front ++ rest) ≡ None
equals_other b other false w front rest h n = ap (λ (x : List ℕ). sign_at b (x ++ rest)) h ∙ n
equals_other b other true None front rest h n = sign_other equals_sign b front rest refl other (alone_equals front h)
equals_other b other true (Some w) front rest h n = both_other equals_sign b (Kept IsWord w) front rest refl other h

-- no tail begins with another sign
pub tail_other : (b : ℕ) → is_byte b equals_sign ≡ false → is_byte left_brace b ≡ false → (t : Tail (List ℕ)) (front rest : List ℕ) → SpellsTail t front → sign_at b rest ≡ None → sign_at b (front ++ rest) ≡ None
tail_other b equals brace t front rest h n = grind (arith, common_steps, equals_other, group_other)
