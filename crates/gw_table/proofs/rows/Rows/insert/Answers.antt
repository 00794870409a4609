use Rattle.std.proofs.Common.{◌≡◌, ◌≢◌, ℕ, Option, Some, None, IsSome, sym, ap, subst, ◌∙◌}
use Rattle.std.proofs.lemmas.Cmp.{eq_by_cmp_equiv}
use Rattle.slab.specs.Slab.{Slab}
use Rattle.gw_table.specs.declared.place.Place.{Place}
use Rattle.gw_table.specs.declared.rows.KeyedRow.{KeyedRow}
use Rattle.gw_table.specs.Rows.{Rowed, found, row_at, place_of_row, place_in}
use Rattle.gw_table.proofs.RowChanges.{filled, vacant, exchange_new, exchange_old, tied_so, puts_so}
use Rattle.gw_table.proofs.TiedRows.{KeyedRows, IsExchanged, found as found_row}
use Rattle.gw_table.proofs.rows.Rows.insert.Given.{Over}
use Rattle.gw_table.proofs.rows.Rows.insert.Goals as goal

-- ---- where the key has no row

module _ (g : Over) (c : goal.In_default g) where
  same_slots : c.reserve.new.self.slots ≡ c.self.inside.rows.slots
  same_slots = ap (λ (s : Slab (KeyedRow g.row.K.Denot g.row.T.Denot)). s.slots) c.in_ok-reserve.ensures.rest_kept

  same_number : c.insert_reserved.result ≡ c.vacant_key-number.result
  same_number = c.insert_reserved.ensures.key ∙ sym c.vacant_key-number.ensures.value

  free : row_at c.self.inside.rows.slots c.vacant_key-number.result ≡ None
  free = ap (λ (ls : KeyedRows g.row.K.Denot g.row.T.Denot). row_at ls c.vacant_key-number.result) (sym same_slots) ∙ c.vacant_key-number.ensures.vacant

  stands : row_at c.insert_reserved.new.self.slots c.vacant_key-number.result ≡ Some (record { key = c.args.key; row = c.args.row })
  stands = ap (λ n. row_at c.insert_reserved.new.self.slots n) (sym same_number) ∙ c.insert_reserved.ensures.updates.changed ∙ ap (λ (r : Place g.row.T.Denot). Some (record { key = c.args.key; row = r })) c.numbered-row.ensures

  others : (j : ℕ) → j ≢ c.vacant_key-number.result → row_at c.insert_reserved.new.self.slots j ≡ row_at c.self.inside.rows.slots j
  others j h = c.insert_reserved.ensures.updates.others j (λ e. h (e ∙ same_number)) ∙ ap (λ (ls : KeyedRows g.row.K.Denot g.row.T.Denot). row_at ls j) same_slots

  exchange : IsExchanged g.met.K.Ord.total c.args.key (Some c.vacant_key-number.result) c.self.inside.index.entries c.self.inside.rows.slots c.insert_reserved.new.self.slots
  exchange = exchange_new g.met.K.Ord.total c.args.key c.self.inside.index.entries c.self.inside.rows.slots c.self.invariant c.vacant_key-number.result (record { key = c.args.key; row = c.args.row }) free ((eq_by_cmp_equiv g.met.K.Ord.total).refl c.args.key) c.insert_reserved.new.self.slots stands others
      (sym c.in_ok-before.ensures.old ∙ c.in_default.is)

pub invariant_of-self-in_default : goal.invariant_of-self-in_default
invariant_of-self-in_default g c = tied_so g.met.K.Ord.total c.args.key c.self.inside.index.entries c.self.inside.rows.slots c.self.invariant (Some c.vacant_key-number.result) c.insert_reserved.new.self.slots (exchange g c) c.insert.new.self.entries c.in_ok-before.ensures.updates.0 c.in_ok-before.ensures.ordered

pub returns-in_default-clause-old : goal.returns-in_default-clause-old
returns-in_default-clause-old g c =
    ap (λ y. place_in c.self.inside.rows.slots y) (sym c.in_default.is ∙ c.in_ok-before.ensures.old)
    ∙ sym (found_row g.met.K.Ord.total c.self.inside.rows.slots c.self.inside.index.entries c.self.invariant c.args.key)
    ∙ ap (λ (m : Rowed g.row.K.Denot (Place g.row.T.Denot)). found g.K.Ord.cmp m c.args.key) c.self.view_is

pub returns-in_default-clause-updates : goal.returns-in_default-clause-updates
returns-in_default-clause-updates g c =
    puts_so g.met.K.Ord.total c.args.key c.self.inside.index.entries c.self.inside.rows.slots c.self.invariant (Some c.vacant_key-number.result) c.insert_reserved.new.self.slots (exchange g c) c.insert.new.self.entries c.in_ok-before.ensures.updates.0 c.in_ok-before.ensures.ordered
    (Some c.args.row) (ap (λ l. place_of_row l) (stands g c)) c.args.self.now (ap (λ (m : Rowed g.row.K.Denot (Place g.row.T.Denot)). m.entries) c.self.view_is)

-- ---- where it has one

module _ (g : Over) (c : goal.After-remove-arg-1 g) where
  same_slots_there : c.reserve.new.self.slots ≡ c.self.inside.rows.slots
  same_slots_there = ap (λ (s : Slab (KeyedRow g.row.K.Denot g.row.T.Denot)). s.slots) c.in_ok-reserve.ensures.rest_kept

  same_number_there : c.insert_reserved.result ≡ c.vacant_key-number.result
  same_number_there = c.insert_reserved.ensures.key ∙ sym c.vacant_key-number.ensures.value

  free_there : row_at c.self.inside.rows.slots c.vacant_key-number.result ≡ None
  free_there = ap (λ (ls : KeyedRows g.row.K.Denot g.row.T.Denot). row_at ls c.vacant_key-number.result) (sym same_slots_there) ∙ c.vacant_key-number.ensures.vacant

  stands_there : row_at c.insert_reserved.new.self.slots c.vacant_key-number.result ≡ Some (record { key = c.args.key; row = c.args.row })
  stands_there = ap (λ n. row_at c.insert_reserved.new.self.slots n) (sym same_number_there) ∙ c.insert_reserved.ensures.updates.changed ∙ ap (λ (r : Place g.row.T.Denot). Some (record { key = c.args.key; row = r })) c.numbered-row.ensures

  others_there : (j : ℕ) → j ≢ c.vacant_key-number.result → row_at c.insert_reserved.new.self.slots j ≡ row_at c.self.inside.rows.slots j
  others_there j h = c.insert_reserved.ensures.updates.others j (λ e. h (e ∙ same_number_there)) ∙ ap (λ (ls : KeyedRows g.row.K.Denot g.row.T.Denot). row_at ls j) same_slots_there

  had : row_at c.insert_reserved.new.self.slots c.in-Some.before ≡ row_at c.self.inside.rows.slots c.in-Some.before
  had = others_there c.in-Some.before (λ e. vacant g.met.K.Ord.total c.args.key c.self.inside.index.entries c.self.inside.rows.slots c.self.invariant c.vacant_key-number.result free_there c.args.key (sym c.in_ok-before.ensures.old ∙ c.in-Some.is ∙ ap (λ n. Some n) e))

pub remove-row-requires : goal.remove-row-requires
remove-row-requires g c = subst (λ (l : Option (KeyedRow g.row.K.Denot g.row.T.Denot)). IsSome l) (sym (had g c)) (filled g.met.K.Ord.total c.args.key c.self.inside.index.entries c.self.inside.rows.slots c.self.invariant c.in-Some.before (sym c.in_ok-before.ensures.old ∙ c.in-Some.is))

module _ (g : Over) (c : goal.After-remove-row g) where
  same_slots_gone : c.reserve.new.self.slots ≡ c.self.inside.rows.slots
  same_slots_gone = ap (λ (s : Slab (KeyedRow g.row.K.Denot g.row.T.Denot)). s.slots) c.in_ok-reserve.ensures.rest_kept

  same_number_gone : c.insert_reserved.result ≡ c.vacant_key-number.result
  same_number_gone = c.insert_reserved.ensures.key ∙ sym c.vacant_key-number.ensures.value

  free_gone : row_at c.self.inside.rows.slots c.vacant_key-number.result ≡ None
  free_gone = ap (λ (ls : KeyedRows g.row.K.Denot g.row.T.Denot). row_at ls c.vacant_key-number.result) (sym same_slots_gone) ∙ c.vacant_key-number.ensures.vacant

  stands_gone : row_at c.insert_reserved.new.self.slots c.vacant_key-number.result ≡ Some (record { key = c.args.key; row = c.args.row })
  stands_gone = ap (λ n. row_at c.insert_reserved.new.self.slots n) (sym same_number_gone) ∙ c.insert_reserved.ensures.updates.changed ∙ ap (λ (r : Place g.row.T.Denot). Some (record { key = c.args.key; row = r })) c.numbered-row.ensures

  others_gone : (j : ℕ) → j ≢ c.vacant_key-number.result → row_at c.insert_reserved.new.self.slots j ≡ row_at c.self.inside.rows.slots j
  others_gone j h = c.insert_reserved.ensures.updates.others j (λ e. h (e ∙ same_number_gone)) ∙ ap (λ (ls : KeyedRows g.row.K.Denot g.row.T.Denot). row_at ls j) same_slots_gone

  exchange_gone : IsExchanged g.met.K.Ord.total c.args.key (Some c.vacant_key-number.result) c.self.inside.index.entries c.self.inside.rows.slots c.remove-row.new.self.slots
  exchange_gone = exchange_old g.met.K.Ord.total c.args.key c.self.inside.index.entries c.self.inside.rows.slots c.self.invariant c.vacant_key-number.result (record { key = c.args.key; row = c.args.row }) free_gone ((eq_by_cmp_equiv g.met.K.Ord.total).refl c.args.key) c.insert_reserved.new.self.slots stands_gone others_gone
      c.in-Some.before (sym c.in_ok-before.ensures.old ∙ c.in-Some.is) c.remove-row.new.self.slots c.remove-row.ensures.updates.changed c.remove-row.ensures.updates.others

  apart : c.vacant_key-number.result ≢ c.in-Some.before
  apart e = vacant g.met.K.Ord.total c.args.key c.self.inside.index.entries c.self.inside.rows.slots c.self.invariant c.vacant_key-number.result free_gone c.args.key (sym c.in_ok-before.ensures.old ∙ c.in-Some.is ∙ ap (λ n. Some n) (sym e))

pub invariant_of-self-2 : goal.invariant_of-self-2
invariant_of-self-2 g c = tied_so g.met.K.Ord.total c.args.key c.self.inside.index.entries c.self.inside.rows.slots c.self.invariant (Some c.vacant_key-number.result) c.remove-row.new.self.slots (exchange_gone g c) c.insert.new.self.entries c.in_ok-before.ensures.updates.0 c.in_ok-before.ensures.ordered

pub returns-clause-old : goal.returns-clause-old
returns-clause-old g c =
    ap (λ l. place_of_row l) (sym c.remove-row.ensures.value ∙ others_gone g c c.in-Some.before (λ e. apart g c (sym e)))
    ∙ ap (λ y. place_in c.self.inside.rows.slots y) (sym c.in-Some.is ∙ c.in_ok-before.ensures.old)
    ∙ sym (found_row g.met.K.Ord.total c.self.inside.rows.slots c.self.inside.index.entries c.self.invariant c.args.key)
    ∙ ap (λ (m : Rowed g.row.K.Denot (Place g.row.T.Denot)). found g.K.Ord.cmp m c.args.key) c.self.view_is

pub returns-clause-updates : goal.returns-clause-updates
returns-clause-updates g c =
    puts_so g.met.K.Ord.total c.args.key c.self.inside.index.entries c.self.inside.rows.slots c.self.invariant (Some c.vacant_key-number.result) c.remove-row.new.self.slots (exchange_gone g c) c.insert.new.self.entries c.in_ok-before.ensures.updates.0 c.in_ok-before.ensures.ordered
    (Some c.args.row) (ap (λ l. place_of_row l) (c.remove-row.ensures.updates.others c.vacant_key-number.result (apart g c) ∙ stands_gone g c)) c.args.self.now (ap (λ (m : Rowed g.row.K.Denot (Place g.row.T.Denot)). m.entries) c.self.view_is)
