use Rattle.std.proofs.Common.{refl, subst, List, Ok, Err}
use Rattle.std.proofs.lemmas.Result.{err_from_is_err_and}
use Rattle.gw_engine.specs.declared.datagram.Datagram.{Datagram}
use Rattle.std.specs.Io.Buffered.{reader_remaining}
use Rattle.std.specs.Io.KnownBytes.{IsAtEnd}
use Rattle.gw_front.specs.Records.{IsBurst, IsLastBurst}
use Rattle.gw_front.specs.RecordFaults.{IsFirstFault}
use Rattle.gw_front.specs.Inputs.{TakesFrom, IsFaultAt}
use Rattle.gw_front.specs.Replaying.{IsBurstDone}
use Rattle.gw_front.proofs.Courses.{begun, stepped, stopped, failed, last_done}
use Rattle.gw_front.proofs.replaying.replay_all.Goals as goal

pub loop-turn-init : goal.loop-turn-init
loop-turn-init g c = record {
  so_far = begun (reader_remaining g.R.Read.remaining c.args.input.now) (g.W.Write.contents c.args.out.now) c.args.gateway.now _ refl;
  empty = c.requires;
}

pub returns-in_err-counts-in-Burst : goal.returns-in_err-counts-in-Burst
returns-in_err-counts-in-Burst g c =
    let p = err_from_is_err_and c.from_residual-in_err-counts-in-Burst.result c.from_residual-in_err-counts-in-Burst.ensures.1 in
    let input = reader_remaining g.R.Read.remaining c.args.input.now in
    let now = reader_remaining g.R.Read.remaining c.loop-turn.input in
    let later = reader_remaining g.R.Read.remaining c.next_burst.new.reader in
    let before = g.W.Write.contents c.args.out.now in
    let between = g.W.Write.contents c.loop-turn.out in
    let after = g.W.Write.contents c.execute.new.out in
    let burst = c.in-Burst.burst in
    let fault = c.in_err-counts-in-Burst.field-0.0 in
    let taken : TakesFrom (IsBurst burst) now later = rw c.in-Burst.is at c.in_ok-burst.ensures in
    let done : IsBurstDone burst c.loop-turn.counts between after c.loop-turn.gateway c.execute.new.gateway (Err fault) =
    subst (λ (b : List Datagram). IsBurstDone b c.loop-turn.counts between after c.loop-turn.gateway c.execute.new.gateway (Err fault)) c.as_slice.ensures c.in_err-counts-in-Burst.ensures.done in
    rw (p.1, p.2) (failed input now later before between after c.args.gateway.now c.loop-turn.gateway c.execute.new.gateway c.loop-turn.counts burst fault c.loop-turn.invariant.so_far taken done)

pub returns-in-Last : goal.returns-in-Last
returns-in-Last g c =
    let input = reader_remaining g.R.Read.remaining c.args.input.now in
    let now = reader_remaining g.R.Read.remaining c.loop-turn.input in
    let later = reader_remaining g.R.Read.remaining c.next_burst.new.reader in
    let before = g.W.Write.contents c.args.out.now in
    let between = g.W.Write.contents c.loop-turn.out in
    let after = g.W.Write.contents c.execute-in-Last.new.out in
    let burst = c.in-Last.burst in
    let taken : TakesFrom (IsLastBurst burst) now later × IsAtEnd later = rw c.in-Last.is at c.in_ok-burst.ensures in
    let done : IsBurstDone burst c.loop-turn.counts between after c.loop-turn.gateway c.execute-in-Last.new.gateway c.execute-in-Last.result =
    subst (λ (b : List Datagram). IsBurstDone b c.loop-turn.counts between after c.loop-turn.gateway c.execute-in-Last.new.gateway c.execute-in-Last.result) c.as_slice-in-Last.ensures c.execute-in-Last.ensures.done in
    last_done input now later before between after c.args.gateway.now c.loop-turn.gateway c.execute-in-Last.new.gateway c.loop-turn.counts burst c.execute-in-Last.result c.loop-turn.invariant.so_far taken done

pub loop-turn-preserved : goal.loop-turn-preserved
loop-turn-preserved g c =
    let input = reader_remaining g.R.Read.remaining c.args.input.now in
    let now = reader_remaining g.R.Read.remaining c.loop-turn.input in
    let later = reader_remaining g.R.Read.remaining c.next_burst.new.reader in
    let before = g.W.Write.contents c.args.out.now in
    let between = g.W.Write.contents c.loop-turn.out in
    let after = g.W.Write.contents c.execute.new.out in
    let burst = c.in-Burst.burst in
    let more = c.in_ok-counts-in-Burst.counts in
    let taken : TakesFrom (IsBurst burst) now later = rw c.in-Burst.is at c.in_ok-burst.ensures in
    let done : IsBurstDone burst c.loop-turn.counts between after c.loop-turn.gateway c.execute.new.gateway (Ok more) =
    subst (λ (b : List Datagram). IsBurstDone b c.loop-turn.counts between after c.loop-turn.gateway c.execute.new.gateway (Ok more)) c.as_slice.ensures c.in_ok-counts-in-Burst.ensures.done in
    record {
      so_far = stepped input now later before between after c.args.gateway.now c.loop-turn.gateway c.execute.new.gateway c.loop-turn.counts more burst c.loop-turn.invariant.so_far taken done;
      empty = c.in_ok-counts-in-Burst.ensures.empty;
    }

pub returns-in_err-burst : goal.returns-in_err-burst
returns-in_err-burst g c =
    let p = err_from_is_err_and c.from_residual.result c.from_residual.ensures.1 in
    let input = reader_remaining g.R.Read.remaining c.args.input.now in
    let now = reader_remaining g.R.Read.remaining c.loop-turn.input in
    let before = g.W.Write.contents c.args.out.now in
    let after = g.W.Write.contents c.loop-turn.out in
    let fault = c.in_err-burst.field-0.0 in
    let wrong : IsFaultAt IsFirstFault now fault = c.in_err-burst.ensures in
    rw (p.1, p.2) (stopped input now before after c.args.gateway.now c.loop-turn.gateway c.loop-turn.counts fault c.loop-turn.invariant.so_far wrong)
