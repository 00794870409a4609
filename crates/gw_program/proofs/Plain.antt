-- Words of the forms that docs/OPERATIONS.md shows.
use Rattle.std.proofs.Common.{◌≡◌, ◌∙◌, ℕ, Bool, List, [], ◌∷◌, Option, Some, None, true, false, refl, ap, sym, subst, codes, cond, nat_eq, true≢false}
use Rattle.std.specs.Prelude.{option_map}
use Rattle.std.specs.Str.{bytes_eq}
use Rattle.std.proofs.lemmas.Slice.Eq.{bytes_eq-Decides}
use Rattle.clap.proofs.OnLiterals.{clap_on_literals}
use Rattle.clap.specs.Kinds.{Kinds, or_else}
use Rattle.clap.specs.Lexer.{strip_byte}
use Rattle.clap.specs.Simple.{subcommand_of}
use Rattle.clap.specs.Walk.{Row, Text, first_of, one_of}
use Rattle.std.proofs.lemmas.Bool.{ne_eqb}
use Rattle.gw_program.specs.Commands.{program_app}
use Rattle.clap.proofs.ValueTestLemmas.{Accepts-accepts, accepts-Accepts}
use Rattle.clap.specs.ValueTests.{is_unsigned_in}
use Rattle.clap.specs.Values.{refused_kind}
use Rattle.clap.specs.declared.builder.value_parser.ValueParser.TheVariants.{Unsigned}
use Rattle.gw_program.specs.Forms.{Requests, IsCount, IsWorkerCount, IsPlain, Request, answer, answers, answers_by, check, checks, everywhere, nothing, number_of, plain, built_in, replay, replays, replays_and_prints, replays_and_prints_by, replays_by, request_of, serve, serves, serves_at, serves_at_by, serves_at_so_long, serves_by, serves_by_so_long, serves_so_long, Terms}
use Rattle.gw_front.specs.Controllers.{IsControllerText}
use Rattle.gw_front.specs.declared.controllers.Controller.{Controller}
use Rattle.gw_program.specs.Words.{AreRequested, IsRequested, IsFlag, IsJobOf, IsNumber, controller_texts, given, mistakes}
use Rattle.gw_program.specs.declared.job.Serving.{Serving}
use Rattle.std.specs.List.{AllZip}
use Rattle.gw_program.specs.declared.job.Job.{Job}
use Rattle.gw_program.specs.declared.job.Job.TheVariants as job

-- a word that is no flag
record IsWord (word : Text) : Type 0 where
  plain : strip_byte 45 word ≡ None
  other : bytes_eq word (45 ∷ 45 ∷ []) ≡ false

word_of : (word : Text) → IsPlain word → IsWord word
word_of [] h = record { plain = refl; other = refl }
word_of (x ∷ xs) h =
    let e : nat_eq x 45 ≡ false = ne_eqb x 45 h in
    record { plain = rw e refl; other = rw e refl }

-- what is read of a command and its matches
record Seen : Type 0 where
  name : Text
  file : Text
  listen : Text
  config : Option Text
  audit : Option Text
  workers : Option Text
  bursts : Option Text
  controllers : List Text
  report : Option Text
  give_up : Option Text

abbrev seen : Option (Text × List Row) → Option Seen
seen = option_map (λ p. record {
  name = p.0;
  file = given (codes "FILE") p.1;
  listen = given (codes "ADDR") p.1;
  config = first_of (codes "CONFIG") p.1;
  audit = one_of (codes "audit") p.1;
  workers = one_of (codes "WORKERS") p.1;
  bursts = one_of (codes "N") p.1;
  controllers = controller_texts p.1;
  report = one_of (codes "REPORT") p.1;
  give_up = one_of (codes "GIVE_UP") p.1;
})

abbrev no_more : Text → Text → Seen
no_more name file =
    record {
      name = name;
      file = file;
      listen = [];
      config = None;
      audit = None;
      workers = None;
      bursts = None;
      controllers = [];
      report = None;
      give_up = None;
    }

-- one worker, where the words name no number
abbrev alone : Text
alone = codes "1"

abbrev replayed : Text → Text → Text → Seen
replayed file audit workers = record (no_more (codes "replay") file) { audit = Some audit; workers = Some workers }

abbrev served : Text → Text → Text → Option Text → Seen
served file listen workers bursts =
    record (no_more (codes "serve") file) { listen = listen; workers = Some workers; bursts = bursts }

-- a number passes the test of its argument
counts : (word : Text) → IsCount word → is_unsigned_in 0 18446744073709551615 word ≡ true
counts word h = Accepts-accepts false (Unsigned 0 18446744073709551615) word h

worker_counts : (word : Text) → IsWorkerCount word → is_unsigned_in 1 64 word ≡ true
worker_counts word h = Accepts-accepts false (Unsigned 1 64) word h

alone_is_worker_count : IsWorkerCount alone
alone_is_worker_count = accepts-Accepts false (Unsigned 1 64) alone refl

-- the kinds of mistake that a number has behind the words before it, by whether it passes the test of its argument
abbrev number_kinds : Bool → Kinds
number_kinds passes =
    or_else (or_else (or_else (cond passes [] (refused_kind (Unsigned 0 18446744073709551615) ∷ [])) []) []) []

-- the same of a number of workers
abbrev workers_kinds : Bool → Kinds
workers_kinds passes = or_else (or_else (or_else (cond passes [] (refused_kind (Unsigned 1 64) ∷ [])) []) []) []

-- the words have no mistake, and this is seen of them
record Reads (words : List Text) (s : Option Seen) : Type 0 where
  sound : mistakes words ≡ []
  found : seen (subcommand_of program_app words) ≡ s

both : {words : List Text} {s : Option Seen} → (mistakes words ≡ []) × (seen (subcommand_of program_app words) ≡ s)
    → Reads words s
both p = record { sound = p.0; found = p.1 }

-- the same where the last word is a number that passes the test of its argument
passing : {words : List Text} {s : Option Seen} {passes : Bool} (kinds : Bool → Kinds) → passes ≡ true → kinds true ≡ []
    → (mistakes words ≡ kinds passes) × (seen (subcommand_of program_app words) ≡ s) → Reads words s
passing kinds c none p = record { sound = p.0 ∙ ap kinds c ∙ none; found = p.1 }

nothing_reads : Reads [] None
unfolding clap_on_literals
nothing_reads = both (refl, refl)

answer_reads : Reads (codes "answer" ∷ []) (Some (no_more (codes "answer") []))
unfolding clap_on_literals
answer_reads = both (refl, refl)

config_reads : (f : Text) → IsWord f
    → Reads (codes "answer" ∷ (codes "--config" ∷ (f ∷ [])))
    (Some (record (no_more (codes "answer") []) { config = Some f }))
unfolding clap_on_literals
config_reads f w = both (rw (w.plain, w.other) (rw w.plain (refl, refl)))

check_reads : (f : Text) → IsWord f
    → Reads (codes "check" ∷ (f ∷ [])) (Some (no_more (codes "check") f))
unfolding clap_on_literals
check_reads f w = both (rw (w.plain, w.other) (rw w.plain (refl, refl)))

replay_reads : (f : Text) → IsWord f
    → Reads (codes "replay" ∷ (f ∷ [])) (Some (replayed f (codes "false") alone))
unfolding clap_on_literals
replay_reads f w = both (rw (w.plain, w.other) (rw w.plain (refl, refl)))

audit_reads : (f : Text) → IsWord f
    → Reads (codes "replay" ∷ (f ∷ (codes "--audit" ∷ []))) (Some (replayed f (codes "true") alone))
unfolding clap_on_literals
audit_reads f w = both (rw (w.plain, w.other) (rw w.plain (refl, refl)))

workers_reads : (f n : Text) → IsWord f → IsWord n → is_unsigned_in 1 64 n ≡ true
    → Reads (codes "replay" ∷ (f ∷ (codes "--workers" ∷ (n ∷ [])))) (Some (replayed f (codes "false") n))
unfolding clap_on_literals
workers_reads f n w v c =
    passing workers_kinds c refl
    (rw (w.plain, w.other) (rw w.plain (rw (v.plain, v.other) (rw v.plain (refl, refl)))))

audit_workers_reads : (f n : Text) → IsWord f → IsWord n → is_unsigned_in 1 64 n ≡ true
    → Reads (codes "replay" ∷ (f ∷ (codes "--audit" ∷ (codes "--workers" ∷ (n ∷ [])))))
    (Some (replayed f (codes "true") n))
unfolding clap_on_literals
audit_workers_reads f n w v c =
    passing workers_kinds c refl
    (rw (w.plain, w.other) (rw w.plain (rw (v.plain, v.other) (rw v.plain (refl, refl)))))

serve_reads : (f : Text) → IsWord f
    → Reads (codes "serve" ∷ (f ∷ [])) (Some (served f everywhere alone None))
unfolding clap_on_literals
serve_reads f w = both (rw (w.plain, w.other) (rw w.plain (refl, refl)))

listen_reads : (f a : Text) → IsWord f → IsWord a
    → Reads (codes "serve" ∷ (f ∷ (codes "--listen" ∷ (a ∷ [])))) (Some (served f a alone None))
unfolding clap_on_literals
listen_reads f a w v = both (rw (w.plain, w.other) (rw w.plain (rw (v.plain, v.other) (rw v.plain (refl, refl)))))

serve_workers_reads : (f n : Text) → IsWord f → IsWord n → is_unsigned_in 1 64 n ≡ true
    → Reads (codes "serve" ∷ (f ∷ (codes "--workers" ∷ (n ∷ [])))) (Some (served f everywhere n None))
unfolding clap_on_literals
serve_workers_reads f n w v c =
    passing workers_kinds c refl
    (rw (w.plain, w.other) (rw w.plain (rw (v.plain, v.other) (rw v.plain (refl, refl)))))

bursts_reads : (f n : Text) → IsWord f → IsWord n → is_unsigned_in 0 18446744073709551615 n ≡ true
    → Reads (codes "serve" ∷ (f ∷ (codes "--bursts" ∷ (n ∷ [])))) (Some (served f everywhere alone (Some n)))
unfolding clap_on_literals
bursts_reads f n w v c =
    passing number_kinds c refl
    (rw (w.plain, w.other) (rw w.plain (rw (v.plain, v.other) (rw v.plain (refl, refl)))))

both_reads : (f a n : Text) → IsWord f → IsWord a → IsWord n → is_unsigned_in 0 18446744073709551615 n ≡ true
    → Reads (codes "serve" ∷ (f ∷ (codes "--listen" ∷ (a ∷ (codes "--bursts" ∷ (n ∷ []))))))
    (Some (served f a alone (Some n)))
unfolding clap_on_literals
both_reads f a n w v u c =
    passing number_kinds c refl
    (rw (w.plain, w.other) (rw w.plain (rw (v.plain, v.other) (rw v.plain (rw (u.plain, u.other) (rw u.plain (refl, refl)))))))

workers_at_reads : (f a n : Text) → IsWord f → IsWord a → IsWord n → is_unsigned_in 1 64 n ≡ true
    → Reads (codes "serve" ∷ (f ∷ (codes "--listen" ∷ (a ∷ (codes "--workers" ∷ (n ∷ [])))))) (Some (served f a n None))
unfolding clap_on_literals
workers_at_reads f a n w v u c =
    passing workers_kinds c refl
    (rw (w.plain, w.other) (rw w.plain (rw (v.plain, v.other) (rw v.plain (rw (u.plain, u.other) (rw u.plain (refl, refl)))))))

workers_bursts_reads : (f n b : Text) → IsWord f → IsWord n → IsWord b → is_unsigned_in 1 64 n ≡ true
    → is_unsigned_in 0 18446744073709551615 b ≡ true
    → Reads (codes "serve" ∷ (f ∷ (codes "--workers" ∷ (n ∷ (codes "--bursts" ∷ (b ∷ []))))))
    (Some (served f everywhere n (Some b)))
unfolding clap_on_literals
workers_bursts_reads f n b w v u c d =
    passing number_kinds d refl
    (rw (w.plain, w.other) (rw w.plain (rw (v.plain, v.other) (rw v.plain (rw c (rw (u.plain, u.other)
    (rw u.plain (refl, refl))))))))

-- ---- the job of what is seen

record IsSeenServing (s : Seen) (serving : Serving) : Type 0 where
  file : serving.file.now ≡ s.file
  listen : serving.listen.now ≡ s.listen
  workers : AreRequested s.workers serving.workers.count
  bursts : IsNumber s.bursts serving.bursts
  controllers : AllZip IsControllerText s.controllers serving.controllers.items
  report : IsNumber s.report serving.report
  give_up : IsNumber s.give_up serving.give_up

abbrev IsSeenJob : Option Seen → Job → Type 0
IsSeenJob None requested = requested ≡ job.BuiltIn
IsSeenJob (Some s) job.BuiltIn = ⊥
IsSeenJob (Some s) (job.Answer file) = (s.name ≡ codes "answer") × (option_map (λ f. f.now) file ≡ s.config)
IsSeenJob (Some s) (job.Check file) = (s.name ≡ codes "check") × (file.now ≡ s.file)
IsSeenJob (Some s) (job.Replay file audit workers) =
    (s.name ≡ codes "replay") × (file.now ≡ s.file) × IsFlag s.audit audit × AreRequested s.workers workers.count
IsSeenJob (Some s) (job.Serve serving) = (s.name ≡ codes "serve") × IsSeenServing s serving

by_seen : (found : Option (Text × List Row)) (requested : Job) → IsJobOf found requested → IsSeenJob (seen found) requested
by_seen (Some p) (job.Serve serving) (named, h) = (
  named,
  record {
    file = h.file;
    listen = h.listen;
    workers = h.workers;
    bursts = h.bursts;
    controllers = h.controllers;
    report = h.report;
    give_up = h.give_up;
  },
)
by_seen None requested h = h
by_seen (Some p) requested h = h

-- the words have no mistake, and ask for this
abbrev AskFor : List Text → Request → Type 0
AskFor words request =
    (mistakes words ≡ []) × ((requested : Job) → IsRequested words requested → request_of requested ≡ request)

by_words : {words : List Text} {s : Option Seen} (request : Request) → Reads words s
    → ((requested : Job) → IsSeenJob s requested → request_of requested ≡ request) → AskFor words request
by_words {words} request r is = (
  r.sound,
  λ requested h. is requested (subst (λ (o : Option Seen). IsSeenJob o requested) r.found
      (by_seen (subcommand_of program_app words) requested h.found)),
)

-- a command has one name
other : {P : Type 0} {name a b : Text} → name ≡ a → name ≡ b → bytes_eq a b ≡ false → P
other {a = a} {b = b} n m differ = absurd (true≢false (sym ((bytes_eq-Decides a b).1 (sym n ∙ m)) ∙ differ))

of_answer : (s : Seen) → s.name ≡ codes "answer" → (requested : Job) → IsSeenJob (Some s) requested
    → request_of requested ≡ answer s.config
of_answer s n job.BuiltIn h = absurd h
of_answer s n (job.Answer file) h = ap answer h.1
of_answer s n (job.Check file) h = other n h.0 refl
of_answer s n (job.Replay file audit workers) h = other n h.0 refl
of_answer s n (job.Serve serving) h = other n h.0 refl

of_check : (s : Seen) → s.name ≡ codes "check" → (requested : Job) → IsSeenJob (Some s) requested
    → request_of requested ≡ check s.file
of_check s n job.BuiltIn h = absurd h
of_check s n (job.Check file) h = ap check h.1
of_check s n (job.Answer file) h = other n h.0 refl
of_check s n (job.Replay file audit workers) h = other n h.0 refl
of_check s n (job.Serve serving) h = other n h.0 refl

of_replay : (s : Seen) (printed : Bool) (worker_count : ℕ) → s.name ≡ codes "replay"
    → ((flag : Bool) → IsFlag s.audit flag → flag ≡ printed) → ((n : ℕ) → AreRequested s.workers n → n ≡ worker_count)
    → (requested : Job) → IsSeenJob (Some s) requested → request_of requested ≡ replay s.file printed worker_count
of_replay s printed worker_count n flag by job.BuiltIn h = absurd h
of_replay s printed worker_count n flag by (job.Answer file) h = other n h.0 refl
of_replay s printed worker_count n flag by (job.Check file) h = other n h.0 refl
of_replay s printed worker_count n flag by (job.Replay file audit workers) h =
    λ i. replay (h.1 i) (flag audit h.2 i) (by workers.count h.3 i)
of_replay s printed worker_count n flag by (job.Serve serving) h = other n h.0 refl

-- no controllers
none_named : (controllers : List Controller) → AllZip IsControllerText [] controllers → controllers ≡ []
none_named [] h = refl
none_named (c ∷ cs) h = absurd h

of_serve : (s : Seen) (worker_count : ℕ) (most : Option ℕ) → s.name ≡ codes "serve" → s.controllers ≡ []
    → s.report ≡ None → s.give_up ≡ None → ((n : ℕ) → AreRequested s.workers n → n ≡ worker_count)
    → ((n : Option ℕ) → IsNumber s.bursts n → n ≡ most) → (requested : Job) → IsSeenJob (Some s) requested
    → request_of requested ≡ serve s.file s.listen (record plain { workers = worker_count; bursts = most })
of_serve s worker_count most n no_one no_report no_end by read job.BuiltIn h = absurd h
of_serve s worker_count most n no_one no_report no_end by read (job.Answer file) h = other n h.0 refl
of_serve s worker_count most n no_one no_report no_end by read (job.Check file) h = other n h.0 refl
of_serve s worker_count most n no_one no_report no_end by read (job.Replay file audit workers) h = other n h.0 refl
of_serve s worker_count most n no_one no_report no_end by read (job.Serve serving) (named, h) =
    let terms : Terms = record {
      workers = serving.workers.count;
      bursts = serving.bursts;
      controllers = serving.controllers.items;
      report = serving.report;
      give_up = serving.give_up;
    } in
    let same : terms ≡ record plain { workers = worker_count; bursts = most } = λ i. record {
      workers = by serving.workers.count h.workers i;
      bursts = read serving.bursts h.bursts i;
      controllers =
          none_named serving.controllers.items (subst (λ (l : List Text). AllZip IsControllerText l
          serving.controllers.items) no_one h.controllers) i;
      report = subst (λ (o : Option Text). IsNumber o serving.report) no_report h.report i;
      give_up = subst (λ (o : Option Text). IsNumber o serving.give_up) no_end h.give_up i;
    } in
    λ i. serve (h.file i) (h.listen i) (same i)

read_number : (word : Text) (n : Option ℕ) → IsCount word → IsNumber (Some word) n → n ≡ Some (number_of word)
read_number word (Some n) count h = ap (λ (x : ℕ). Some x) h
read_number word None count h = absurd (h count)

-- one worker
by_one : (n : ℕ) → AreRequested (Some alone) n → n ≡ 1
by_one n h = h alone_is_worker_count

by_many : (word : Text) → IsWorkerCount word → (n : ℕ) → AreRequested (Some word) n → n ≡ number_of word
by_many word worker_count n h = h worker_count

-- each form is without a mistake, and its job is what it asks for
pub form_requests : (words : List Text) (request : Request) → Requests words request → AskFor words request
form_requests _ _ nothing = by_words built_in nothing_reads (λ requested h. ap request_of h)
form_requests _ _ answers =
    by_words (answer None) answer_reads (of_answer (no_more (codes "answer") []) refl)
form_requests _ _ (answers_by f p) =
    by_words _ (config_reads f (word_of f p)) (of_answer (record (no_more (codes "answer") []) { config = Some f }) refl)
form_requests _ _ (checks f p) =
    by_words _ (check_reads f (word_of f p)) (of_check (no_more (codes "check") f) refl)
form_requests _ _ (replays f p) =
    by_words _ (replay_reads f (word_of f p))
    (of_replay (replayed f (codes "false") alone) false 1 refl (λ flag g. g.1 refl) by_one)
form_requests _ _ (replays_and_prints f p) =
    by_words _ (audit_reads f (word_of f p))
    (of_replay (replayed f (codes "true") alone) true 1 refl (λ flag g. g.0 refl) by_one)
form_requests _ _ (replays_by f n p q c) =
    by_words _ (workers_reads f n (word_of f p) (word_of n q) (worker_counts n c))
    (of_replay (replayed f (codes "false") n) false (number_of n) refl (λ flag g. g.1 refl) (by_many n c))
form_requests _ _ (replays_and_prints_by f n p q c) =
    by_words _ (audit_workers_reads f n (word_of f p) (word_of n q) (worker_counts n c))
    (of_replay (replayed f (codes "true") n) true (number_of n) refl (λ flag g. g.0 refl) (by_many n c))
form_requests _ _ (serves f p) =
    by_words _ (serve_reads f (word_of f p))
    (of_serve (served f everywhere alone None) 1 None refl refl refl refl by_one (λ n g. g))
form_requests _ _ (serves_at f a p q) =
    by_words _ (listen_reads f a (word_of f p) (word_of a q))
    (of_serve (served f a alone None) 1 None refl refl refl refl by_one (λ n g. g))
form_requests _ _ (serves_by f n p q c) =
    by_words _ (serve_workers_reads f n (word_of f p) (word_of n q) (worker_counts n c))
    (of_serve (served f everywhere n None) (number_of n) None refl refl refl refl (by_many n c) (λ n g. g))
form_requests _ _ (serves_at_by f a n p q r c) =
    by_words _ (workers_at_reads f a n (word_of f p) (word_of a q) (word_of n r) (worker_counts n c))
    (of_serve (served f a n None) (number_of n) None refl refl refl refl (by_many n c) (λ n g. g))
form_requests _ _ (serves_so_long f b p r c) =
    by_words _ (bursts_reads f b (word_of f p) (word_of b r) (counts b c))
    (of_serve (served f everywhere alone (Some b)) 1 (Some (number_of b)) refl refl refl refl by_one
    (λ n g. read_number b n c g))
form_requests _ _ (serves_at_so_long f a b p q r c) =
    by_words _ (both_reads f a b (word_of f p) (word_of a q) (word_of b r) (counts b c))
    (of_serve (served f a alone (Some b)) 1 (Some (number_of b)) refl refl refl refl by_one
    (λ n g. read_number b n c g))
form_requests _ _ (serves_by_so_long f n b p q c r d) =
    by_words _ (workers_bursts_reads f n b (word_of f p) (word_of n q) (word_of b r) (worker_counts n c) (counts b d))
    (of_serve (served f everywhere n (Some b)) (number_of n) (Some (number_of b)) refl refl refl refl (by_many n c)
    (λ m g. read_number b m d g))
