-- A text is one list of bursts at most; one that is to be bursts has one first fault at most, and none where it is bursts.
use Rattle.std.proofs.Common.{◌≡◌, ◌⊎◌, inl, inr, ℕ, ◌==◌, ◌+◌, ◌<◌, ◌≤◌, true, false, List, [], ◌∷◌, ◌++◌, length, codes, refl, ap, ap₂, sym, subst, ◌∙◌, arith, append_assoc, length-append}
use Rattle.std.specs.List.{list_any}
use Rattle.std.proofs.Math.Bool.{or-true}
use Rattle.std.proofs.lemmas.Bool.{or_parts}
use Rattle.std.proofs.lemmas.List.{append-nil}
use Rattle.std.proofs.lemmas.List.Folds.{list_any-append}
use Rattle.gw_base.specs.Lang.{◌▹◌}
use Rattle.gw_engine.specs.declared.datagram.Datagram.{Datagram}
use Rattle.gw_front.specs.declared.replay_fault.ReplayFault.{ReplayFault}
use Rattle.gw_front.specs.declared.replay_fault.ReplayFault.TheVariants.{BadHeader, Truncated, TooLong, Read, Write, NoMemory}
use Rattle.gw_front.specs.Records.{IsRecordHeader, IsRecord, AreRecords, AreOfBurst, IsBurst, IsLastBurst, AreWholeBursts, AreBursts, EndsWithLast}
use Rattle.gw_front.specs.RecordFaults.{HasNoLineFeed, IsOtherLine, IsLongLine, HasOtherByte, IsTooMuch, IsCutLine, IsCutDatagram, HasFault, IsFirstFault}
use Rattle.gw_front.proofs.HeaderForms.{cut_once}
use Rattle.gw_front.proofs.OneReading.{IsHeaded, headed_one, headed_line, header_plain, begins_d, same_fronts, record_headed, record_one}

-- ---- first lines

-- a text with a line feed has one
fed : (text line after : List ℕ) → text ≡ line ++ 10 ∷ after → HasNoLineFeed text → ⊥
fed text line after e none =
    let there : list_any (λ c. c == 10) (line ++ 10 ∷ after) ≡ true = list_any-append (λ c. c == 10) line (10 ∷ after) ∙ or-true (list_any (λ c. c == 10) line) in
    let clash : false ≡ true = sym none ∙ ap (λ (l : List ℕ). list_any (λ c. c == 10) l) e ∙ there in
    absurd cc

-- a front without a line feed is no longer than the first line
within_line : (line after front more : List ℕ) → line ++ 10 ∷ after ≡ front ++ more → HasNoLineFeed front → length front ≤ length line
within_line line after [] more e plain = omega arith
within_line [] after (b ∷ bs) more e plain =
    let first : 10 ≡ b = cc in
    let clash = (or_parts (b == 10) (list_any (λ c. c == 10) bs) plain).0 in
    let is : (b == 10) ≡ true = subst (λ (w : ℕ). (w == 10) ≡ true) first refl in
    absurd cc
within_line (a ∷ line) after (b ∷ bs) more e plain =
    let rest : line ++ 10 ∷ after ≡ bs ++ more = cc in
    let shorter = within_line line after bs more rest (or_parts (b == 10) (list_any (λ c. c == 10) bs) plain).1 in
    omega arith

-- a header is short
header_short : (line : List ℕ) (peer len : ℕ) → IsRecordHeader peer len line → length line ≤ 32
header_short line peer len h =
    let a = h.second.first.short in
    let b = h.second.second.second.few in
    let p = ap length h.first in
    let q = ap length h.second.second.first in
    let r = ap length h.split ∙ length-append h.front h.back in
    let s = ap length h.second.split ∙ length-append h.second.front h.second.back in
    let t = ap length h.second.second.split ∙ length-append h.second.second.front h.second.second.back in
    omega arith

headed_other : (text : List ℕ) (p l : ℕ) (a : List ℕ) → IsHeaded text p l a → IsOtherLine text → ⊥
headed_other text p l a h o =
    let r = cut_once 10 h.line a o.line o.after (header_plain h.line p l h.form) o.plain (sym h.split ∙ o.split) in
    o.no_header p l (subst (IsRecordHeader p l) r.0 h.form)

headed_long : (text : List ℕ) (p l : ℕ) (a : List ℕ) → IsHeaded text p l a → IsLongLine text → ⊥
headed_long text p l a h o =
    let m = within_line h.line a o.front o.after (sym h.split ∙ o.split) o.plain in
    let n = header_short h.line p l h.form in
    let k = o.long in
    absurd (omega arith)

headed_cut : (text : List ℕ) (p l : ℕ) (a : List ℕ) → IsHeaded text p l a → IsCutLine text → ⊥
headed_cut text p l a h o = fed text h.line a h.split o.plain

-- ---- faults as what follows a header

other_headed : (n : ℕ) (text : List ℕ) (o : HasOtherByte n text) → IsHeaded text o.peer (length o.bytes) (o.bytes ++ o.byte ∷ o.after)
other_headed n text o = headed_line text o.header (o.bytes ++ o.byte ∷ o.after) o.peer (length o.bytes) (o.split ∙ append_assoc o.header o.bytes (o.byte ∷ o.after)) o.taken.form

much_headed : (n : ℕ) (text : List ℕ) (o : IsTooMuch n text) → IsHeaded text o.peer o.len o.after
much_headed n text o = headed_line text o.header o.after o.peer o.len o.split o.form

cut_headed : (n : ℕ) (text : List ℕ) (o : IsCutDatagram n text) → IsHeaded text o.peer o.len o.bytes
cut_headed n text o = headed_line text o.header o.bytes o.peer o.len o.split o.taken.form

-- a datagram that is taken is not too much
not_much : (n p l : ℕ) (text a : List ℕ) → IsHeaded text p l a → l ≤ 65507 → n < 256 → IsTooMuch n text → ⊥
not_much n p l text a h short room o =
    let same = (headed_one text p l o.peer o.len a o.after h (much_headed n text o)).1 in
    elim o.much [ inl long ↦ absurd (omega arith) | inr full ↦ absurd (omega arith) ]

-- bytes that are there are not cut
not_cut : (n p : ℕ) (text bytes after : List ℕ) (b : ℕ) → IsHeaded text p (length bytes) (bytes ++ b ∷ after) → IsCutDatagram n text → ⊥
not_cut n p text bytes after b h o =
    let r = headed_one text p (length bytes) o.peer o.len (bytes ++ b ∷ after) o.bytes h (cut_headed n text o) in
    let same = r.1 in
    let all = ap length r.2 in
    let some = length-append bytes (b ∷ after) in
    let cut = o.cut in
    absurd (omega arith)

-- ---- a fault is nothing else

fault_record : (f : ReplayFault) (n : ℕ) (d : Datagram) (text t r : List ℕ) → n < 256 → IsRecord d t → text ≡ t ++ r → HasFault f n text → ⊥
fault_record BadHeader n d text t r room h e (inl o) = headed_other text d.peer (length d.bytes) (d.bytes ++ 10 ∷ r) (record_headed d text t r h e) o
fault_record BadHeader n d text t r room h e (inr (inl o)) = headed_long text d.peer (length d.bytes) (d.bytes ++ 10 ∷ r) (record_headed d text t r h e) o
fault_record BadHeader n d text t r room h e (inr (inr o)) =
    let one = headed_one text d.peer (length d.bytes) o.peer (length o.bytes) (d.bytes ++ 10 ∷ r) (o.bytes ++ o.byte ∷ o.after) (record_headed d text t r h e) (other_headed n text o) in
    let tails = (same_fronts d.bytes o.bytes (10 ∷ r) (o.byte ∷ o.after) one.1 one.2).1 in
    let feed : o.byte ≡ 10 = cc in
    o.other feed
fault_record TooLong n d text t r room h e o = not_much n d.peer (length d.bytes) text (d.bytes ++ 10 ∷ r) (record_headed d text t r h e) h.short room o
fault_record Truncated n d text t r room h e (inl o) = headed_cut text d.peer (length d.bytes) (d.bytes ++ 10 ∷ r) (record_headed d text t r h e) o
fault_record Truncated n d text t r room h e (inr o) = not_cut n d.peer text d.bytes r 10 (record_headed d text t r h e) o
fault_record fault n d text t r room h e o = o

headed_nil : (text : List ℕ) (p l : ℕ) (a : List ℕ) → IsHeaded text p l a → text ≡ [] → ⊥
headed_nil text p l a h none = let b = begins_d text p l a h in let clash : 68 ∷ b.0 ≡ [] = sym b.1 ∙ none in absurd cc

headed_dot : (text : List ℕ) (p l : ℕ) (a more : List ℕ) → IsHeaded text p l a → text ≡ codes ".\n" ++ more → ⊥
headed_dot text p l a more h dot = let b = begins_d text p l a h in let clash : 68 ∷ b.0 ≡ 46 ∷ (10 ∷ more) = sym b.1 ∙ dot in absurd cc

fault_nil : (f : ReplayFault) (n : ℕ) (text : List ℕ) → text ≡ [] → HasFault f n text → ⊥
fault_nil BadHeader n text none (inl o) = let l = ap length (sym none ∙ o.split) in let m = length-append o.line (10 ∷ o.after) in absurd (omega arith)
fault_nil BadHeader n text none (inr (inl o)) = let l = ap length (sym none ∙ o.split) in let m = length-append o.front o.after in let k = o.long in absurd (omega arith)
fault_nil BadHeader n text none (inr (inr o)) = headed_nil text o.peer (length o.bytes) (o.bytes ++ o.byte ∷ o.after) (other_headed n text o) none
fault_nil TooLong n text none o = headed_nil text o.peer o.len o.after (much_headed n text o) none
fault_nil Truncated n text none (inl o) = let l = ap length none in let k = o.some in absurd (omega arith)
fault_nil Truncated n text none (inr o) = headed_nil text o.peer o.len o.bytes (cut_headed n text o) none
fault_nil fault n text none o = o

fault_dot : (f : ReplayFault) (n : ℕ) (text more : List ℕ) → text ≡ codes ".\n" ++ more → HasFault f n text → ⊥
fault_dot BadHeader n text more dot (inl o) = o.no_end (sym (cut_once 10 (codes ".") more o.line o.after refl o.plain (sym dot ∙ o.split)).0)
fault_dot BadHeader n text more dot (inr (inl o)) =
    let m = within_line (codes ".") more o.front o.after (sym dot ∙ o.split) o.plain in
    let k = o.long in
    let one : length (codes ".") ≡ 1 = refl in
    absurd (omega arith)
fault_dot BadHeader n text more dot (inr (inr o)) = headed_dot text o.peer (length o.bytes) (o.bytes ++ o.byte ∷ o.after) more (other_headed n text o) dot
fault_dot TooLong n text more dot o = headed_dot text o.peer o.len o.after more (much_headed n text o) dot
fault_dot Truncated n text more dot (inl o) = fed text (codes ".") more dot o.plain
fault_dot Truncated n text more dot (inr o) = headed_dot text o.peer o.len o.bytes more (cut_headed n text o) dot
fault_dot fault n text more dot o = o

bad_much : (n : ℕ) (text : List ℕ) → HasFault BadHeader n text → IsTooMuch n text → ⊥
bad_much n text (inl o) m = headed_other text m.peer m.len m.after (much_headed n text m) o
bad_much n text (inr (inl o)) m = headed_long text m.peer m.len m.after (much_headed n text m) o
bad_much n text (inr (inr o)) m = not_much n o.peer (length o.bytes) text (o.bytes ++ o.byte ∷ o.after) (other_headed n text o) o.taken.short o.taken.room m

bad_cut : (n : ℕ) (text : List ℕ) → HasFault BadHeader n text → HasFault Truncated n text → ⊥
bad_cut n text (inl o) (inl m) = fed text o.line o.after o.split m.plain
bad_cut n text (inl o) (inr m) = headed_other text m.peer m.len m.bytes (cut_headed n text m) o
bad_cut n text (inr (inl o)) (inl m) = let l = ap length o.split in let k = length-append o.front o.after in let a = o.long in let b = m.short in absurd (omega arith)
bad_cut n text (inr (inl o)) (inr m) = headed_long text m.peer m.len m.bytes (cut_headed n text m) o
bad_cut n text (inr (inr o)) (inl m) = headed_cut text o.peer (length o.bytes) (o.bytes ++ o.byte ∷ o.after) (other_headed n text o) m
bad_cut n text (inr (inr o)) (inr m) = not_cut n o.peer text o.bytes o.after o.byte (other_headed n text o) m

much_cut : (n : ℕ) (text : List ℕ) → IsTooMuch n text → HasFault Truncated n text → ⊥
much_cut n text m (inl o) = headed_cut text m.peer m.len m.after (much_headed n text m) o
much_cut n text m (inr o) = not_much n o.peer o.len text o.bytes (cut_headed n text o) o.taken.short o.taken.room m

one_fault : (f g : ReplayFault) (n : ℕ) (text : List ℕ) → HasFault f n text → HasFault g n text → f ≡ g
one_fault BadHeader BadHeader n text h k = refl
one_fault TooLong TooLong n text h k = refl
one_fault Truncated Truncated n text h k = refl
one_fault BadHeader TooLong n text h k = absurd (bad_much n text h k)
one_fault TooLong BadHeader n text h k = absurd (bad_much n text k h)
one_fault BadHeader Truncated n text h k = absurd (bad_cut n text h k)
one_fault Truncated BadHeader n text h k = absurd (bad_cut n text k h)
one_fault TooLong Truncated n text h k = absurd (much_cut n text h k)
one_fault Truncated TooLong n text h k = absurd (much_cut n text k h)
one_fault f Read n text h k = absurd k
one_fault f Write n text h k = absurd k
one_fault f NoMemory n text h k = absurd k
one_fault f g n text h k = absurd h

-- ---- the datagrams of a burst, up to what ends it

-- where the datagrams end: with the input, or with what is wrong; the line `.` is told apart
abbrev Halts : ℕ → List ℕ → Type 0
Halts n text = (text ≡ []) ⊎ ((f : ReplayFault) × HasFault f n text)

-- or with the line `.`
abbrev Stands : ℕ → List ℕ → Type 0
Stands n text = Halts n text ⊎ ((more : List ℕ) × (text ≡ codes ".\n" ++ more))

no_record_stands : (n : ℕ) (d : Datagram) (text t r : List ℕ) → n < 256 → IsRecord d t → text ≡ t ++ r → Stands n text → ⊥
no_record_stands n d text t r room h e (inl (inl none)) = headed_nil text d.peer (length d.bytes) (d.bytes ++ 10 ∷ r) (record_headed d text t r h e) none
no_record_stands n d text t r room h e (inl (inr fault)) = fault_record fault.0 n d text t r room h e fault.1
no_record_stands n d text t r room h e (inr dot) = headed_dot text d.peer (length d.bytes) (d.bytes ++ 10 ∷ r) dot.0 (record_headed d text t r h e) dot.1

records_stand : (n : ℕ) (ds es : List Datagram) (text t r u s : List ℕ) → n + length ds ≤ 256 → n + length es ≤ 256 → AreRecords ds t → text ≡ t ++ r → Stands (n + length ds) r → AreRecords es u → text ≡ u ++ s → Stands (n + length es) s → (ds ≡ es) × (r ≡ s)
records_stand n [] [] text t r u s few less h p x k q y = (refl, sym (p ∙ ap (λ (l : List ℕ). l ++ r) h) ∙ q ∙ ap (λ (l : List ℕ). l ++ s) k)
records_stand n [] (e ∷ es) text t r u s few less h p x k q y =
    let here : n + 0 ≡ n = omega arith in
    let room : n < 256 = omega arith in
    let at : Stands n text = subst (λ (l : List ℕ). Stands n l) (sym (p ∙ ap (λ (l : List ℕ). l ++ r) h)) (subst (λ (m : ℕ). Stands m r) here x) in
    absurd (no_record_stands n e text k.front (k.back ++ s) room k.first (q ∙ ap (λ (l : List ℕ). l ++ s) k.split ∙ append_assoc k.front k.back s) at)
records_stand n (d ∷ ds) [] text t r u s few less h p x k q y =
    let here : n + 0 ≡ n = omega arith in
    let room : n < 256 = omega arith in
    let at : Stands n text = subst (λ (l : List ℕ). Stands n l) (sym (q ∙ ap (λ (l : List ℕ). l ++ s) k)) (subst (λ (m : ℕ). Stands m s) here y) in
    absurd (no_record_stands n d text h.front (h.back ++ r) room h.first (p ∙ ap (λ (l : List ℕ). l ++ r) h.split ∙ append_assoc h.front h.back r) at)
records_stand n (d ∷ ds) (e ∷ es) text t r u s few less h p x k q y =
    let first = record_one d e text h.front (h.back ++ r) k.front (k.back ++ s) h.first (p ∙ ap (λ (l : List ℕ). l ++ r) h.split ∙ append_assoc h.front h.back r) k.first (q ∙ ap (λ (l : List ℕ). l ++ s) k.split ∙ append_assoc k.front k.back s) in
    let a : n + length (d ∷ ds) ≡ (n + 1) + length ds = omega arith in
    let b : n + length (e ∷ es) ≡ (n + 1) + length es = omega arith in
    let rest = records_stand (n + 1) ds es (h.back ++ r) h.back r k.back s (omega arith) (omega arith) h.second refl (subst (λ (m : ℕ). Stands m r) a x) k.second first.1 (subst (λ (m : ℕ). Stands m s) b y) in
    (ap (λ (l : List Datagram). d ∷ l) rest.0 ∙ ap (λ (c : Datagram). c ∷ es) first.0, rest.1)

-- a burst that the line `.` does not end
record IsOpen (text : List ℕ) : Type 0 where
  ds : List Datagram
  front : List ℕ
  rest : List ℕ
  of_burst : AreOfBurst ds front
  split : text ≡ front ++ rest
  halts : Halts (length ds) rest

zero_more : (n : ℕ) → 0 + n ≡ n
zero_more n = omega arith

stands_from : (n : ℕ) (text : List ℕ) → Stands n text → Stands (0 + n) text
stands_from n text h = subst (λ (m : ℕ). Stands m text) (sym (zero_more n)) h

few_from : (n : ℕ) → n ≤ 256 → 0 + n ≤ 256
few_from n h = omega arith

open_one : (text : List ℕ) (a b : IsOpen text) → (a.ds ≡ b.ds) × (a.rest ≡ b.rest)
open_one text a b =
    records_stand 0 a.ds b.ds text a.front a.rest b.front b.rest (few_from _ a.of_burst.few) (few_from _ b.of_burst.few)
    a.of_burst.records a.split (stands_from (length a.ds) a.rest (inl a.halts)) b.of_burst.records b.split (stands_from (length b.ds) b.rest (inl b.halts))

burst_records : (b : List Datagram) (text t r : List ℕ) (h : IsBurst b t) → text ≡ t ++ r → text ≡ h.front ++ (codes ".\n" ++ r)
burst_records b text t r h e = e ∙ ap (λ (l : List ℕ). l ++ r) (h.split ∙ ap (λ (l : List ℕ). h.front ++ l) h.second) ∙ append_assoc h.front (codes ".\n") r

burst_one : (b c : List Datagram) (text t r u s : List ℕ) → IsBurst b t → text ≡ t ++ r → IsBurst c u → text ≡ u ++ s → (b ≡ c) × (r ≡ s)
burst_one b c text t r u s h p k q =
    let one = records_stand 0 b c text h.front (codes ".\n" ++ r) k.front (codes ".\n" ++ s) (few_from _ h.first.few) (few_from _ k.first.few)
    h.first.records (burst_records b text t r h p) (stands_from (length b) (codes ".\n" ++ r) (inr (r, refl)))
    k.first.records (burst_records c text u s k q) (stands_from (length c) (codes ".\n" ++ s) (inr (s, refl))) in
    let tails = one.1 in
    (one.0, cc)

dot_halts : (n : ℕ) (text more : List ℕ) → text ≡ codes ".\n" ++ more → Halts n text → ⊥
dot_halts n text more dot (inl none) = let clash : 46 ∷ (10 ∷ more) ≡ [] = sym dot ∙ none in absurd cc
dot_halts n text more dot (inr f) = fault_dot f.0 n text more dot f.1

-- a burst is not open
burst_open : (b : List Datagram) (text t r : List ℕ) → IsBurst b t → text ≡ t ++ r → IsOpen text → ⊥
burst_open b text t r h e o =
    let one = records_stand 0 b o.ds text h.front (codes ".\n" ++ r) o.front o.rest (few_from _ h.first.few) (few_from _ o.of_burst.few)
    h.first.records (burst_records b text t r h e) (stands_from (length b) (codes ".\n" ++ r) (inr (r, refl))) o.of_burst.records o.split (stands_from (length o.ds) o.rest (inl o.halts)) in
    dot_halts (length o.ds) o.rest r (sym one.1) o.halts

wholes_open : (bs cs : List (List Datagram)) (text t r u s : List ℕ) → AreWholeBursts bs t → text ≡ t ++ r → IsOpen r → AreWholeBursts cs u → text ≡ u ++ s → IsOpen s → (bs ≡ cs) × (r ≡ s)
wholes_open [] [] text t r u s h p x k q y = (refl, sym (p ∙ ap (λ (l : List ℕ). l ++ r) h) ∙ q ∙ ap (λ (l : List ℕ). l ++ s) k)
wholes_open [] (c ∷ cs) text t r u s h p x k q y =
    absurd (burst_open c text k.front (k.back ++ s) k.first (q ∙ ap (λ (l : List ℕ). l ++ s) k.split ∙ append_assoc k.front k.back s) (subst IsOpen (sym (p ∙ ap (λ (l : List ℕ). l ++ r) h)) x))
wholes_open (b ∷ bs) [] text t r u s h p x k q y =
    absurd (burst_open b text h.front (h.back ++ r) h.first (p ∙ ap (λ (l : List ℕ). l ++ r) h.split ∙ append_assoc h.front h.back r) (subst IsOpen (sym (q ∙ ap (λ (l : List ℕ). l ++ s) k)) y))
wholes_open (b ∷ bs) (c ∷ cs) text t r u s h p x k q y =
    let first = burst_one b c text h.front (h.back ++ r) k.front (k.back ++ s) h.first (p ∙ ap (λ (l : List ℕ). l ++ r) h.split ∙ append_assoc h.front h.back r) k.first (q ∙ ap (λ (l : List ℕ). l ++ s) k.split ∙ append_assoc k.front k.back s) in
    let rest = wholes_open bs cs (h.back ++ r) h.back r k.back s h.second refl x k.second first.1 y in
    (ap (λ (l : List (List Datagram)). b ∷ l) rest.0 ∙ ap (λ (l : List Datagram). l ∷ cs) first.0, rest.1)

-- ---- the laws

abbrev open_fault : (f : ReplayFault) (text : List ℕ) → IsFirstFault f text → IsOpen text
open_fault f text h = record { ds = h.0; front = h.1.front; rest = h.1.back; of_burst = h.1.first; split = h.1.split; halts = inr (f, h.1.second) }

abbrev open_last : (last : List Datagram) (text : List ℕ) → IsLastBurst last text → IsOpen text
open_last last text h = record { ds = last; front = text; rest = []; of_burst = h.datagrams; split = sym (append-nil text); halts = inl refl }

abbrev open_end : IsOpen []
open_end = record { ds = []; front = []; rest = []; of_burst = record { few = omega arith; records = refl }; split = refl; halts = inl refl }

first_one : (f g : ReplayFault) (text : List ℕ) → IsFirstFault f text → IsFirstFault g text → f ≡ g
first_one f g text h k =
    let one = open_one text (open_fault f text h) (open_fault g text k) in
    let count : length k.0 ≡ length h.0 = ap (λ (l : List Datagram). length l) (sym one.0) in
    one_fault f g (length h.0) h.1.back h.1.second (subst (λ (l : List ℕ). HasFault g (length h.0) l) (sym one.1) (subst (λ (n : ℕ). HasFault g n k.1.back) count k.1.second))

first_open : (f : ReplayFault) (text : List ℕ) → IsFirstFault f text → (o : IsOpen text) → o.rest ≡ [] → ⊥
first_open f text h o none =
    let one = open_one text (open_fault f text h) o in
    fault_nil f (length h.0) h.1.back (one.1 ∙ none) h.1.second

no_last : (last : List Datagram) → IsLastBurst last [] → ⊥
no_last [] h = absurd (let some = h.some in omega arith)
no_last (d ∷ ds) h =
    let r = h.datagrams.records in
    headed_nil [] d.peer (length d.bytes) (d.bytes ++ 10 ∷ r.back) (record_headed d [] r.front r.back r.first r.split) refl

no_whole_last : (bursts others : List (List Datagram)) (text : List ℕ) → AreWholeBursts bursts text → EndsWithLast others text → ⊥
no_whole_last bursts others text h k =
    let one = wholes_open bursts k.whole text text [] k.form.front k.form.back h (sym (append-nil text)) open_end k.form.first k.form.split (open_last k.last k.form.back k.form.second) in
    no_last k.last (subst (IsLastBurst k.last) (sym one.1) k.form.second)

pub bursts_one : (bursts others : List (List Datagram)) (text : List ℕ) → AreBursts bursts text → AreBursts others text → bursts ≡ others
bursts_one bursts others text (inl h) (inl k) =
    (wholes_open bursts others text text [] text [] h (sym (append-nil text)) open_end k (sym (append-nil text)) open_end).0
bursts_one bursts others text (inl h) (inr k) = absurd (no_whole_last bursts others text h k)
bursts_one bursts others text (inr h) (inl k) = absurd (no_whole_last others bursts text k h)
bursts_one bursts others text (inr h) (inr k) =
    let at = open_last h.last h.form.back h.form.second in
    let one = wholes_open h.whole k.whole text h.form.front h.form.back k.form.front k.form.back h.form.first h.form.split at k.form.first k.form.split (open_last k.last k.form.back k.form.second) in
    let last = (open_one h.form.back at (open_last k.last h.form.back (subst (IsLastBurst k.last) (sym one.1) k.form.second))).0 in
    h.all ∙ ap₂ (λ (w : List (List Datagram)) (l : List Datagram). w ++ l ∷ []) one.0 last ∙ sym k.all

pub faults_one : (f g : ReplayFault) (bs cs : List (List Datagram)) (text : List ℕ) → (AreWholeBursts bs ▹ IsFirstFault f) text → (AreWholeBursts cs ▹ IsFirstFault g) text → f ≡ g
faults_one f g bs cs text h k =
    let one = wholes_open bs cs text h.front h.back k.front k.back h.first h.split (open_fault f h.back h.second) k.first k.split (open_fault g k.back k.second) in
    first_one f g h.back h.second (subst (λ (l : List ℕ). IsFirstFault g l) (sym one.1) k.second)

pub bursts_or_fault : (f : ReplayFault) (bs cs : List (List Datagram)) (text : List ℕ) → AreBursts bs text → ¬ (AreWholeBursts cs ▹ IsFirstFault f) text
bursts_or_fault f bs cs text (inl h) k =
    let one = wholes_open bs cs text text [] k.front k.back h (sym (append-nil text)) open_end k.first k.split (open_fault f k.back k.second) in
    first_open f [] (subst (λ (l : List ℕ). IsFirstFault f l) (sym one.1) k.second) open_end refl
bursts_or_fault f bs cs text (inr h) k =
    let one = wholes_open h.whole cs text h.form.front h.form.back k.front k.back h.form.first h.form.split (open_last h.last h.form.back h.form.second) k.first k.split (open_fault f k.back k.second) in
    first_open f h.form.back (subst (λ (l : List ℕ). IsFirstFault f l) (sym one.1) k.second) (open_last h.last h.form.back h.form.second) refl
