-- A push begins at the end of a client.
use Rattle.std.proofs.Common.{◌≡◌, ◌∙◌, ◌<◌, ◌≤◌, ◌^◌, ◌&&◌, ◌||◌, not, ℕ, Bool, true, false, List, [], ◌∷◌, ◌++◌, length, refl, sym, ap, subst, true≢false, if◌then◌else◌, map, arith}
use Rattle.std.proofs.lemmas.Bool.{false≢true}
use Rattle.std.specs.Prelude.{Option, Some, None, Result, Ok, Err, IfOk, IfSome}
use Rattle.std.specs.Option.{option_map}
use Rattle.bt_base.specs.Counts.{HasCause}
use Rattle.bt_base.specs.Numbers.{IsPsm}
use Rattle.bt_base.specs.Objects.{Object, octets_of}
use Rattle.bt_base.specs.declared.ports.PortFault.{PortFault}
use Rattle.bt_base.specs.declared.ports.PortFault.TheVariants as fault
use Rattle.shelf_model.specs.obex_session.specs.Counting.{HasRisenBy}
use Rattle.shelf_model.specs.obex_session.specs.PutPackets.{units_in}
use Rattle.shelf_model.specs.obex_session.proofs.CountingLaws.{rises_none, rises_once}
use Rattle.push_terms.specs.declared.outcome.Outcome.{Outcome}
use Rattle.push_model.specs.declared.course.Point.TheVariants.{Asked}
use Rattle.push_model.specs.declared.course.Stage.{Stage}
use Rattle.push_model.specs.declared.course.Stage.TheVariants.{Rest, Link, SearchChannel, Search, SearchEnd, Features, ObjectChannel, Object as Carries, ObjectEnd, LinkEnd, Over}
use Rattle.push_model.specs.Client.{Client, begins, begun_by, with_object, is_rest, is_idle}
use Rattle.push_model.specs.Laws.{links}
use Rattle.push_model.specs.Steps as course
use Rattle.push_model.specs.Steps.{Part as Octs, Stepped, steps, steps_at, stepped}
use Rattle.push_client.specs.Ending as push
use Rattle.push_client.specs.Pushing.{gone, payload_in, step_of, Begins}
use Rattle.push_client.specs.Putting.{Comes}
use Rattle.push_client.specs.declared.step.Step.{Step}
use Rattle.shelf_model.specs.world_model.specs.Machines.{Opening}
use Rattle.shelf_model.specs.host_model.specs.Circumstances.{Excerpt, Size, parts_in}
use Rattle.shelf_model.specs.host_model.specs.Clients as model
use Rattle.shelf_model.specs.host_model.specs.Clients.{ClientProfile, calls, after_call}
use Rattle.shelf_model.specs.host_model.specs.Shelves.{name_for, size_if, is_short}
use Rattle.shelf_model.specs.Held.{given_by, held_by}
use Rattle.shelf_model.specs.host_model.proofs.Shelves.{name_stays, size_stays}
use Rattle.bt_host.specs.Calls.{Does}
use Rattle.bt_host.specs.Pushing.{pushing, Pushes, IsDue, FoundMemory, IsOf, failures_in, AreOf}
use Rattle.bt_host.specs.PushingLaws.{Answers, joins}
use Rattle.bt_host.specs.Shelving.{Shelved, is_failed, owed, less_one, in_memory, told_shelved, shelved_by}
use Rattle.bt_host.proofs.Clients.{ended_is, over_if}
use Rattle.bt_host.proofs.Shelving.{paid, size_held}

-- ---- its link is asked for

due_steps : (client : Client) (parts : List Octs) → IsDue client → steps client parts ≡ course.gives course.MakeLink (Link Asked) client parts
due_steps client parts due =
    ap (λ (b : Bool). (if b then (let one : Stepped = record { client = client; step = course.NoMemory; left = parts } in one) else if client.given then course.rests client parts else steps_at client.stage client parts)) due.works
    ∙ ap (λ (b : Bool). (if b then course.rests client parts else steps_at client.stage client parts)) due.free
    ∙ ap (λ (s : Stage). steps_at s client parts) due.stage

abbrev asked_link : Client → Client
asked_link client = record client { stage = Link Asked; given = true }

pub calls_is : (end : ClientProfile) → IsDue end.client → calls end ≡ record end { client = stepped (asked_link end.client); bid = model.Paging }
calls_is end due = ap (λ (s : Stepped). after_call s.step s.client end) (due_steps end.client [] due)

none_of : (used : List Octs) → used ++ [] ≡ [] → used ≡ []
none_of [] is = refl
none_of (answer ∷ used) is = cc

module _ {content : Option (List Object)} {f f' s s' : ℕ} (old new : Client) (result : Step) (lacks : Bool) (due : IsDue old) (k : Comes (steps old) (gone new result) old content f f' s s' lacks) where
  came : course.gives course.MakeLink (Link Asked) old (k.used ++ []) ≡ gone new result []
  came = sym (due_steps old (k.used ++ []) due) ∙ k.comes []

  pub asked_is : new ≡ asked_link old
  asked_is = sym (ap (λ (s : Stepped). s.client) came)

  pub asks_link : course.MakeLink ≡ step_of (payload_in new) result
  asks_link = ap (λ (s : Stepped). s.step) came

  pub asks_alone : (content' : Option (List Object)) → content' ≡ content → AreOf content content' f f' s s' []
  asks_alone content' stays = record { content_stays = stays; faults_stay = k.faults_stay; shortages_stay = k.shortages_stay; each = tt; few = rises_none f f' k.faults_stay }

-- ---- where no link is needed

rest_of : (stage : Stage) → is_rest stage ≡ true → stage ≡ Rest
rest_of Rest is = refl
rest_of (Link point) is = absurd (false≢true is)
rest_of (SearchChannel point) is = absurd (false≢true is)
rest_of Search is = absurd (false≢true is)
rest_of (SearchEnd point) is = absurd (false≢true is)
rest_of (Features point) is = absurd (false≢true is)
rest_of (ObjectChannel point) is = absurd (false≢true is)
rest_of Carries is = absurd (false≢true is)
rest_of (ObjectEnd point) is = absurd (false≢true is)
rest_of (LinkEnd point) is = absurd (false≢true is)
rest_of Over is = absurd (false≢true is)

resting_by : (failed given : Bool) (end : ClientProfile)
    → (let one : Stepped = if failed then record { client = end.client; step = course.NoMemory; left = [] } else if given then course.rests end.client [] else steps_at Rest end.client [] in after_call one.step one.client end) ≡ end
resting_by true given end = refl
resting_by false true end = refl
resting_by false false end = refl

pub calls_none : (end : ClientProfile) → is_idle end.client ≡ true → end ≡ calls end
calls_none end idle =
    sym (ap (λ (stage : Stage). (let one : Stepped = if end.client.failed then record { client = end.client; step = course.NoMemory; left = [] } else if end.client.given then course.rests end.client [] else steps_at stage end.client [] in after_call one.step one.client end))
    (rest_of end.client.stage idle) ∙ resting_by end.client.failed end.client.given end)

-- ---- the push that begins

and_off : (x : Bool) → (x && false) ≡ false
and_off true = refl
and_off false = refl

due_ok : (size : ℕ) (name : List ℕ) (client : Client) → client.failed ≡ false → IsDue (push.ended (with_object name size client))
due_ok size name client works =
    let new = with_object name size client in
    subst (λ (b : Bool). IsDue (over_if b new)) (sym (and_off (not (client.failed || false)))) (record { stage = refl; works = works; free = refl })

idle_failed : (name : List ℕ) (client : Client) → client.failed ≡ false → is_idle (push.ended (begun_by (Err fault.Failed) name client)) ≡ true
idle_failed name client works = ap (λ (b : Bool). is_idle (over_if (not (b || false) && true) (begun_by (Err fault.Failed) name client))) works

due_by : (size : Result ℕ PortFault) (name : List ℕ) (client : Client) → client.failed ≡ false → (begun_by size name client).failed ≡ false → is_idle (push.ended (begun_by size name client)) ≡ false → IsDue (push.ended (begun_by size name client))
due_by (Ok size) name client works still busy = due_ok size name client works
due_by (Err fault.Failed) name client works still busy = absurd (true≢false (sym (idle_failed name client works) ∙ busy))
due_by (Err fault.NoMemory) name client works still busy = absurd (true≢false still)

abbrev keeps_psm : Client → Client → Type 0
keeps_psm old new = new.psm ≡ old.psm

begun_psm : (size : Result ℕ PortFault) (name : List ℕ) (client : Client) → keeps_psm client (begun_by size name client)
begun_psm (Ok size) name client = refl
begun_psm (Err fault.Failed) name client = refl
begun_psm (Err fault.NoMemory) name client = refl

over_psm : (test : Bool) (client : Client) → keeps_psm client (over_if test client)
over_psm true client = refl
over_psm false client = refl

over_failed : (test : Bool) (client : Client) → (over_if test client).failed ≡ client.failed
over_failed true client = refl
over_failed false client = refl

begins_is : (size : Result ℕ PortFault) (name : List ℕ) (client : Client) → client.failed ≡ false → begins size name client ≡ begun_by size name client
begins_is size name client works = ap (λ (b : Bool). (if b then client else begun_by size name client)) works

-- it is begun, and no link is asked for yet
abbrev pub opening : ClientProfile → Client → ClientProfile
opening end client = record end { client = client; submitted = None; bid = model.NoBid }

module _ (end : ClientProfile) (mid after : Client) (size : Result ℕ PortFault) (name : List ℕ) (sound : Pushes end) (begun : mid ≡ begins size name end.client) (works : mid.failed ≡ false) (is : after ≡ push.ended mid) where
  mid_is : mid ≡ begun_by size name end.client
  mid_is = begun ∙ begins_is size name end.client sound.works

  after_is : after ≡ push.ended (begun_by size name end.client)
  after_is = is ∙ ap push.ended mid_is

  pub due_then : is_idle after ≡ false → IsDue after
  due_then busy = subst IsDue (sym after_is) (due_by size name end.client sound.works (sym (ap (λ (c : Client). c.failed) mid_is) ∙ works) (sym (ap is_idle after_is) ∙ busy))

  after_psm : IsPsm after.psm
  after_psm = subst IsPsm (sym (ap (λ (c : Client). c.psm) is ∙ over_psm (push.tells_end mid) mid ∙ ap (λ (c : Client). c.psm) mid_is ∙ begun_psm size name end.client)) sound.psm

  after_works : after.failed ≡ false
  after_works = ap (λ (c : Client). c.failed) is ∙ over_failed (push.tells_end mid) mid ∙ works

  pub idle_sound : is_idle after ≡ true → Pushes (opening end after)
  idle_sound idle = record { works = after_works; called = ap links (rest_of after.stage idle); psm = after_psm; endpoints = sound.endpoints }

  pub due_sound : (new : ClientProfile) → is_idle after ≡ false → new ≡ calls (opening end after) → Pushes new
  due_sound new busy is_new = subst Pushes (sym (is_new ∙ calls_is (opening end after) (due_then busy))) (record { works = after_works; called = refl; psm = after_psm; endpoints = sound.endpoints })

-- ---- as its profile

after_with : (one : course.Step) (client : Client) (end : ClientProfile) (parts : List Excerpt) → after_call one client (record end { parts = parts }) ≡ record (after_call one client end) { parts = parts }
after_with course.Wait client end parts = refl
after_with course.MakeLink client end parts = refl
after_with course.AskFeatures client end parts = refl
after_with (course.OpenChannel psm) client end parts = refl
after_with (course.SendSdu psm payload) client end parts = refl
after_with (course.CloseChannel psm) client end parts = refl
after_with course.BreakLink client end parts = refl
after_with (course.Ended outcome) client end parts = refl
after_with course.NoMemory client end parts = refl

told_size : (content : Option (List Object)) (name : List ℕ) (size : ℕ) → size < 2 ^ 32 → IfSome content (λ objects. option_map length (octets_of name objects) ≡ Some size) → IsOf content (Size (Ok size))
told_size None name size few is = (omega (arith, few), tt)
told_size (Some objects) name size few is = (omega (arith, few), (name, is))

size_of : (size : Result ℕ PortFault) (content : Option (List Object)) (name : List ℕ) → IfOk size (λ n. n < 2 ^ 32) → IfOk size (λ n. IfSome content (λ objects. option_map length (octets_of name objects) ≡ Some n)) → FoundMemory size → IsOf content (Size size)
size_of (Ok size) content name few is found = told_size content name size few is
size_of (Err fault) content name few is found = found

size_fails : (size : Result ℕ PortFault) (f f' s s' : ℕ) → HasCause f f' s s' size → HasRisenBy (failures_in (Size size ∷ [])) f f'
size_fails (Ok size) f f' s s' cause = rises_none f f' cause.faults_stay
size_fails (Err fault.Failed) f f' s s' cause = rises_once f f' cause.faults_stay (cause.failed refl)
size_fails (Err fault.NoMemory) f f' s s' cause = rises_none f f' cause.faults_stay

pub size_answered : (old new : Client) (name : List ℕ) (content content' : Option (List Object)) (f f' s s' : ℕ) → old.failed ≡ false → (b : Begins old new name content f f' s s') → FoundMemory b.size → content' ≡ content → AreOf content content' f f' s s' (Size b.size ∷ [])
size_answered old new name content content' f f' s s' works b found stays =
    let cause = b.cause works in
    record {
      content_stays = stays;
      faults_stay = cause.faults_stay;
      shortages_stay = cause.shortages_stay;
      each = (size_of b.size content name b.few (b.told works) found, tt);
      few = size_fails b.size f f' s s' cause;
    }

-- one that begins did not find memory wanting
size_found : (size : Result ℕ PortFault) (name : List ℕ) (client : Client) → (begun_by size name client).failed ≡ false → FoundMemory size
size_found (Ok size) name client works = tt
size_found (Err fault.Failed) name client works = tt
size_found (Err fault.NoMemory) name client works = absurd (true≢false works)

-- and ended at once exactly where the shelf failed
size_pays : (size : Result ℕ PortFault) (name : List ℕ) (client : Client) → (begun_by size name client).failed ≡ false → failures_in (Size size ∷ []) ≡ owed (is_failed (begun_by size name client).cause)
size_pays (Ok size) name client works = refl
size_pays (Err fault.Failed) name client works = refl
size_pays (Err fault.NoMemory) name client works = absurd (true≢false works)

over_cause : (test : Bool) (client : Client) → (over_if test client).cause ≡ client.cause
over_cause true client = refl
over_cause false client = refl

-- that its link is asked for changes nothing of it
begun_cause : (size : Result ℕ PortFault) (name : List ℕ) (end new : ClientProfile) (after : Client) → end.client.failed ≡ false → (begun_by size name end.client).failed ≡ false → after ≡ push.ended (begun_by size name end.client) → new ≡ calls (opening end after)
    → new.client.cause ≡ (begun_by size name end.client).cause
begun_cause size name end new after works still is new_is = ap (λ (p : ClientProfile). p.client.cause) new_is ∙ by (is_idle after) refl ∙ ap (λ (c : Client). c.cause) is ∙ over_cause (push.tells_end begun) begun
  where
    begun : Client
    begun = begun_by size name end.client

    by : (idle : Bool) → is_idle after ≡ idle → (calls (opening end after)).client.cause ≡ after.cause
    by true idle = ap (λ (p : ClientProfile). p.client.cause) (sym (calls_none (opening end after) idle))
    by false busy = ap (λ (p : ClientProfile). p.client.cause) (calls_is (opening end after) (subst IsDue (sym is) (due_by size name end.client works still (sym (ap is_idle is) ∙ busy))))

module _ {P : Type 0} (content : P → Option (List Object)) (faults shortages : P → ℕ) where
  pub begin_does : (end new : ClientProfile) (mid after : Client) (name : List ℕ) (first second last : P) → length (units_in name) ≤ 100 → end.client.failed ≡ false
      → (b : Begins end.client mid name (content first) (faults first) (faults second) (shortages first) (shortages second)) → mid.failed ≡ false → content second ≡ content first → after ≡ push.ended mid → new ≡ calls (opening end after)
      → Answers content faults shortages second [] last
      → Does (Answers content faults shortages) (λ rest. told_shelved rest (Opening name) (shelved_by content end first rest)) (shelved_by content new last) first last
  begin_does end new mid after name first second last few works b mid_works stays is new_is behind = record {
    used = Size b.size ∷ [];
    answered = (joins content faults shortages).then first second last (Size b.size ∷ []) []
        (size_answered end.client mid name (content first) (content second) (faults first) (faults second) (shortages first) (shortages second) works b found stays) behind;
    does = λ rest.
        let client_is : model.ended (begins b.size name end.client) ≡ after = ap model.ended (sym b.client) ∙ ended_is mid ∙ sym is in
        let begun : model.told (held_by (content first) (Opening name) (map in_memory (Size b.size ∷ rest))) (Opening name) (pushing end (map (given_by (content first)) (map in_memory (Size b.size ∷ rest)))) ≡ pushing new (map (given_by (content first)) (map in_memory rest)) =
        let left = parts_in (map (given_by (content first)) (map in_memory rest)) in
        ap (λ (s : Result ℕ PortFault). model.opens (size_if (is_short name) s) (name_for name) (record end { parts = left })) (size_held (content first) name b.size rest b.few (b.told works) found)
        ∙ ap (λ (s : Result ℕ PortFault). model.opens s (name_for name) (record end { parts = left })) (size_stays b.size name few)
        ∙ ap (λ (n : List ℕ). model.opens b.size n (record end { parts = left })) (name_stays name few)
        ∙ ap (λ (c : Client). calls (record (opening end c) { parts = left })) client_is
        ∙ after_with (steps after []).step (steps after []).client (opening end after) left
        ∙ ap (λ (e : ClientProfile). record e { parts = left }) (sym new_is) in
        ap (λ (p : ClientProfile). let one : Shelved = record { pushing = p; shelf = content first; faults = less_one (is_failed p.client.cause) (failures_in (Size b.size ∷ rest)) } in one) begun
        ∙ ap (λ (n : ℕ). let one : Shelved = record { pushing = pushing new (map (given_by (content first)) (map in_memory rest)); shelf = content first; faults = n } in one) (paid (is_failed new.client.cause) (Size b.size ∷ []) rest pays)
        ∙ ap (λ (c : Option (List Object)). let one : Shelved = record { pushing = pushing new (map (given_by c) (map in_memory rest)); shelf = c; faults = failures_in rest } in one) (sym (behind.content_stays ∙ stays));
  }
    where
      mid_is : mid ≡ begun_by b.size name end.client
      mid_is = b.client ∙ begins_is b.size name end.client works

      still : (begun_by b.size name end.client).failed ≡ false
      still = sym (ap (λ (c : Client). c.failed) mid_is) ∙ mid_works

      found : FoundMemory b.size
      found = size_found b.size name end.client still

      pays : failures_in (Size b.size ∷ []) ≡ owed (is_failed new.client.cause)
      pays = size_pays b.size name end.client still ∙ ap (λ (c : Option Outcome). owed (is_failed c)) (sym (begun_cause b.size name end new after works still (is ∙ ap push.ended mid_is) new_is))
