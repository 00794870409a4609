-- Records of a burst, one behind the other, and what is wrong with one.
use Rattle.std.proofs.Common.{◌≡◌, ◌⊎◌, inl, inr, ℕ, ◌<◌, ◌≤◌, List, [], ◌∷◌, ◌++◌, length, Option, Some, None, IfSome, codes, refl, ap, sym, subst, ◌∙◌, arith, append_assoc, length-append}
use Rattle.std.specs.Io.KnownBytes.{Consumes}
use Rattle.std.proofs.KnownBytes.{Consumes-trans}
use Rattle.std.proofs.lemmas.List.{append-nil}
use Rattle.gw_engine.specs.declared.datagram.Datagram.{Datagram}
use Rattle.gw_front.specs.declared.header.Header.{Header}
use Rattle.gw_front.specs.declared.header.Header.TheVariants as header
use Rattle.gw_front.specs.declared.replay_fault.ReplayFault.{ReplayFault}
use Rattle.gw_front.specs.declared.replay_fault.ReplayFault.TheVariants.{BadHeader, Truncated, TooLong, Read, Write, NoMemory}
use Rattle.gw_front.specs.Headers.{SaysHeader}
use Rattle.gw_front.specs.Records.{IsHeaderLine, IsRecord, AreRecords, AreOfBurst, IsBurst, longest_datagram, most_datagrams}
use Rattle.gw_front.specs.RecordFaults.{HasNoLineFeed, IsTaken, IsTooMuch, HasFault, longest_line}
use Rattle.gw_front.specs.Inputs.{IsBadHeader, IsBadDatagram, IsFaultAt, TakesFrom}

-- ---- one record

-- a line that says nothing
pub other_line : (old mid : Option (List ℕ)) (line : List ℕ) → Consumes old mid (line ++ 10 ∷ []) → HasNoLineFeed line → length line ≤ longest_line → ((h : Header) → ¬ SaysHeader h line)
    → IsBadHeader old BadHeader
other_line None mid line p plain short none = tt
other_line (Some x) None line p plain short none = absurd p
other_line (Some x) (Some y) line p plain short none = inl (record {
  line = line;
  after = y;
  split = p ∙ append_assoc line (10 ∷ []) y;
  plain = plain;
  short = short;
  no_end = none header.Stop;
  no_header = λ peer len. none (header.Datagram peer len);
})

-- a datagram that is too long, or that its burst has no room for
pub too_much : (old mid : Option (List ℕ)) (n peer size : ℕ) → TakesFrom (IsHeaderLine peer size) old mid → (longest_datagram < size) ⊎ (n ≡ most_datagrams) → IfSome old (IsTooMuch n)
too_much None mid n peer size t much = tt
too_much (Some x) None n peer size t much = absurd t.2
too_much (Some x) (Some y) n peer size t much = record { peer = peer; len = size; header = t.0; after = y; split = t.2; form = t.1; much = much }

-- a datagram that is not whole
pub bad_datagram : (old mid : Option (List ℕ)) (n peer size : ℕ) (fault : ReplayFault) → TakesFrom (IsHeaderLine peer size) old mid → size ≤ longest_datagram → n < most_datagrams
    → IsBadDatagram size mid fault → IsFaultAt (λ f. HasFault f n) old fault
bad_datagram None mid n peer size BadHeader t short room bad = tt
bad_datagram (Some x) None n peer size BadHeader t short room bad = absurd t.2
bad_datagram (Some x) (Some y) n peer size BadHeader t short room bad = inr (inr (record {
  peer = peer;
  header = t.0;
  bytes = bad.bytes;
  byte = bad.byte;
  after = bad.after;
  split = t.2 ∙ ap (λ (l : List ℕ). t.0 ++ l) bad.split ∙ sym (append_assoc t.0 bad.bytes (bad.byte ∷ bad.after));
  taken = subst (λ (k : ℕ). IsTaken n peer k t.0) (sym bad.all) (record { form = t.1; short = short; room = room });
  other = bad.other;
}))
bad_datagram None mid n peer size Truncated t short room bad = tt
bad_datagram (Some x) None n peer size Truncated t short room bad = absurd t.2
bad_datagram (Some x) (Some y) n peer size Truncated t short room bad =
    inr (record { peer = peer; len = size; header = t.0; bytes = y; split = t.2; taken = record { form = t.1; short = short; room = room }; cut = bad })
bad_datagram old mid n peer size TooLong t short room bad = absurd bad
bad_datagram old mid n peer size Read t short room bad = tt
bad_datagram old mid n peer size NoMemory t short room bad = tt
bad_datagram old mid n peer size Write t short room bad = absurd bad

-- a whole record
pub whole_record : (old mid new : Option (List ℕ)) (peer size : ℕ) (d : Datagram) → TakesFrom (IsHeaderLine peer size) old mid → size ≤ longest_datagram
    → d.peer ≡ peer → length d.bytes ≡ size → Consumes mid new (d.bytes ++ 10 ∷ []) → TakesFrom (IsRecord d) old new
whole_record old mid new peer size d t short is all q =
    let header : IsHeaderLine d.peer (length d.bytes) t.0 =
    subst (λ (k : ℕ). IsHeaderLine k (length d.bytes) t.0) (sym is) (subst (λ (k : ℕ). IsHeaderLine peer k t.0) (sym all) t.1) in (
      t.0 ++ (d.bytes ++ 10 ∷ []),
      record {
        short = omega (arith, all);
        form = record {
          front = t.0;
          back = d.bytes ++ 10 ∷ [];
          split = refl;
          first = header;
          second = record { front = d.bytes; back = 10 ∷ []; split = refl; first = refl; second = refl };
        };
      },
      Consumes-trans old mid new t.0 (d.bytes ++ 10 ∷ []) t.2 q,
    )

-- ---- a burst

records_more : (ds : List Datagram) (text more : List ℕ) (d : Datagram) → AreRecords ds text → IsRecord d more → AreRecords (ds ++ d ∷ []) (text ++ more)
records_more [] text more d h r =
    subst (λ (l : List ℕ). AreRecords (d ∷ []) (l ++ more)) (sym h) (record { front = more; back = []; split = sym (append-nil more); first = r; second = refl })
records_more (e ∷ es) text more d h r = record {
  front = h.front;
  back = h.back ++ more;
  split = ap (λ (l : List ℕ). l ++ more) h.split ∙ append_assoc h.front h.back more;
  first = h.first;
  second = records_more es h.back more d h.second r;
}

-- one datagram more
pub one_more : (old mid new : Option (List ℕ)) (ds : List Datagram) (d : Datagram) → TakesFrom (AreOfBurst ds) old mid → (length ds < most_datagrams) × TakesFrom (IsRecord d) mid new → TakesFrom (AreOfBurst (ds ++ d ∷ [])) old new
one_more old mid new ds d p q =
    (p.0 ++ q.1.0, record { few = omega (arith, q.0, length-append ds (d ∷ [])); records = records_more ds p.0 q.1.0 d p.1.records q.1.1 }, Consumes-trans old mid new p.0 q.1.0 p.2 q.1.2)

-- the line that ends it
pub burst_ended : (old mid new : Option (List ℕ)) (ds : List Datagram) → TakesFrom (AreOfBurst ds) old mid → Consumes mid new (codes ".\n") → TakesFrom (IsBurst ds) old new
burst_ended old mid new ds p q =
    (p.0 ++ codes ".\n", record { front = p.0; back = codes ".\n"; split = refl; first = p.1; second = refl }, Consumes-trans old mid new p.0 (codes ".\n") p.2 q)
