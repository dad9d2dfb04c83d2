-- Push after push over L2CAP: the object of each push that is done is stored.
use Rattle.std.proofs.Common.{inl, inr, ◌⊎◌, Bool, true, false, ◌≡◌, ◌==◌, ℕ, ◌≤◌, ◌||◌, List, [], ◌∷◌, ◌++◌, length, map, Some, None, refl, sym, ap, subst, ◌∙◌, arith, append-nil, append_assoc}
use Rattle.std.specs.List.{AllByRecursion, flat_map}
use Rattle.std.proofs.lemmas.Bool.{cases_Bool, eqb-true}
use Rattle.std.proofs.lemmas.List.{length-append, append_cancel_left}
use Rattle.tape_laws.specs.bt_base.specs.declared.settings.Settings.{Settings}
use Rattle.tape_laws.specs.bt_base.specs.declared.settings.Transport.TheVariants.{L2cap}
use Rattle.tape_laws.specs.bt_base.specs.Objects.{Object}
use Rattle.tape_laws.specs.push_terms.specs.declared.outcome.Outcome.TheVariants as outcomes
use Rattle.tape_laws.specs.obex_session.specs.Past.{Heard, stored_by}
use Rattle.tape_laws.specs.link_talk.specs.ObjectsHeard.{spelled_within}
use Rattle.tape_laws.specs.push_model.specs.declared.course.Contact.TheVariants.{Unmet, Met}
use Rattle.tape_laws.specs.push_model.specs.Client.{Client, own_maximum}
use Rattle.tape_laws.specs.push_model.specs.Laws as deeds
use Rattle.tape_laws.specs.push_model.specs.Laws.{Deed}
use Rattle.tape_laws.specs.push_model.specs.Server.{Reacted, object_psm}
use Rattle.tape_laws.specs.push_laws.specs.Faults as faulty
use Rattle.tape_laws.specs.push_laws.specs.Faults.{Marked, unmarked, heard_as, heard_over, mark_of}
use Rattle.tape_laws.specs.push_laws.specs.Gains as clear
use Rattle.tape_laws.specs.push_laws.specs.Laws.{new_over, stored_in}
use Rattle.tape_laws.specs.push_laws.specs.Marks.{AllSayMarks}
use Rattle.tape_laws.specs.push_laws.specs.Occurrences.{Occurrence, LinkDown, done, all_done}
use Rattle.tape_laws.specs.push_laws.specs.Parties.{Move, OfServer, OfClient, server_side, client_side, Pipes, no_pipes, sent_by, come_by, sdu_if, pipes_after, IsFrontOf, StayPipes, Push, IsOffered, begun_of, ended_with, over_pushes, ServesDirectly, AllServeDirectly}
use Rattle.tape_laws.specs.push_laws.specs.Premises.{NoneShort}
use Rattle.tape_laws.specs.push_laws.specs.Readings.{closes}
use Rattle.tape_laws.specs.push_laws.specs.Spelled.{ArePushed, IsOfShelf, IsOfShelfOrStill, IsOnce, name_by}
use Rattle.tape_laws.specs.push_laws.proofs.Among.{one_pushed}
use Rattle.tape_laws.specs.push_laws.proofs.Keeping.{Keeps, Brings, brings, keeps_more}
use Rattle.tape_laws.specs.push_laws.proofs.Listening.{octets_of}
use Rattle.tape_laws.specs.push_laws.proofs.Marking.{gains-all_but_refusals}
use Rattle.tape_laws.specs.push_laws.proofs.Missing.{Stays, marked_at, stays_more, marks_later, first_stays, all_may_miss}
use Rattle.tape_laws.specs.push_laws.proofs.OneName.{one_name_leaves, one_name_few}
use Rattle.tape_laws.specs.push_laws.proofs.OnObject.{none_sent, same_psm, none_come, on_object}
use Rattle.tape_laws.specs.push_laws.proofs.Parties.{begun_so}
use Rattle.tape_laws.specs.push_laws.proofs.Placing.{task_of}
use Rattle.tape_laws.specs.push_laws.proofs.Pushing.{Task}
use Rattle.tape_laws.specs.push_laws.proofs.Readings.{heard_more}
use Rattle.done_laws.specs.Kept.{client_of, IsKept, HasGained, SpellsHere, SpellEach, PushesSpellEach}
use Rattle.done_laws.proofs.Successes.{success_in}
use Rattle.done_laws.proofs.Servers.{stored_with, last_is, stored_later, ends_quiet}
use Rattle.done_laws.proofs.Walks.{Ends, Behind, walks}

-- ---- what one link leaves

module _ (settings : Settings) (before : List Object) where
  abbrev most : ℕ
  most = own_maximum L2cap settings

  -- what is stored of it and what is spelled, and what is said behind it
  record Link (ahead spelt : List Object) (push : Push) (past : List Occurrence) (at : Reacted) (tail : List Occurrence) : Type 0 where
    stays : Stays settings before past at
    kept : List Object
    here : List Object
    stored : faulty.objects settings stays.marks ≡ ahead ++ kept
    spelled : clear.objects settings past ≡ spelt ++ here
    fits : IsKept push kept here
    said : AllSayMarks settings stays.marks at tail

  link_of : (ahead spelt : List Object) (push : Push) (w : Task) (past : List Occurrence) (at : Reacted) (tail : List Occurrence) (quiet : Bool) → (client_side push.moves ≡ [] → quiet ≡ true) → w ≡ task_of push → Behind settings before ahead spelt w quiet past at (client_of push) tail → Link ahead spelt push past at tail
  link_of ahead spelt push w past at tail quiet still_is w_is b =
      let e : Ends settings before ahead spelt w quiet past at (client_of push) = b.ends in
      let kept : List Object = stored_by most e.heard in
      let here : List Object = spelled_within most (map octets_of e.heard) in
      let few : length here ≤ 1 = one_name_few most (map octets_of e.heard) e.named in
      let either : (kept ≡ []) ⊎ (kept ≡ here) = one_name_leaves most e.heard e.named in
      record {
        stays = e.stays;
        kept = kept;
        here = here;
        stored = e.keeps.stored;
        spelled = e.keeps.spelled;
        fits = record {
          few = few;
          either = either;
          done = λ is. (let some = e.stored is.psm is.cause in let all = ap length e.keeps.stored in let both = length-append ahead kept in one_of kept here few either (omega (arith, some, all, both)));
          cancelled = e.cancelled;
          still = λ none. nothing e.heard (e.none (still_is none));
          once = λ shelf held. by_side shelf here (client_side push.moves) refl held (λ none. nothing e.heard (e.none (still_is none))) (λ of. subst (λ (x : Task). IsOfShelf shelf x.name x.size x.content → IsOnce shelf x.name here) w_is (e.once shelf) of);
        };
        said = b.said;
      }
    where
      nothing : (heard : List Heard) → heard ≡ [] → spelled_within most (map octets_of heard) ≡ []
      nothing heard none = ap (λ (hs : List Heard). spelled_within most (map octets_of hs)) none

      by_side : (shelf here : List Object) (side : List Deed) → client_side push.moves ≡ side → IsOfShelfOrStill shelf push → (client_side push.moves ≡ [] → here ≡ []) → (IsOfShelf shelf push.name push.size push.content → IsOnce shelf push.name here) → ArePushed shelf (name_by side push.name) here
      by_side shelf here [] is held none once = none is
      by_side shelf here (deed ∷ side) is (inl still) none once = absurd (let never : deed ∷ side ≡ [] = sym is ∙ still in cc)
      by_side shelf here (deed ∷ side) is (inr held) none once = one_pushed shelf push.name here (once held)

      one_of : (kept here : List Object) → length here ≤ 1 → (kept ≡ []) ⊎ (kept ≡ here) → 1 ≤ length kept → (kept ≡ here) × (length here ≡ 1)
      one_of kept here few (inl none) some = absurd (let same = ap length none in omega (arith, same, some))
      one_of kept here few (inr same) some = (same, (let long = ap length same in omega (arith, few, long, some)))

  -- ---- its link goes down

  -- nothing of it is left
  record Begins (past : List Occurrence) (at : Reacted) (s : Stays settings before past at) : Type 0 where
    empty : at.server.listener.service.response ≡ []
    none : heard_over L2cap s.marks ≡ []

  or_true : (b : Bool) → (b || true) ≡ true
  or_true true = refl
  or_true false = refl

  module _ (ahead spelt : List Object) (w : Task) (quiet : Bool) (client : Client) (past : List Occurrence) (at : Reacted) (e : Ends settings before ahead spelt w quiet past at client) (serves : ServesDirectly NoneShort at LinkDown) where
    abbrev last : Marked
    last = record { occurrence = LinkDown; refused = marked_at settings before past at LinkDown e.stays serves }

    later : Stays settings before (past ++ LinkDown ∷ []) (done LinkDown at)
    later = stays_more settings before past at LinkDown e.stays serves

    marks_are : later.marks ≡ e.stays.marks ++ last ∷ []
    unfolding later
    marks_are = marks_later settings before past at LinkDown e.stays serves

    more_stored : stored_with settings e.stays.marks ≤ stored_with settings later.marks
    unfolding later
    more_stored = let more = stored_later settings before past at LinkDown e.stays serves in omega (arith, more)

    down_keeps : Keeps settings before ahead spelt e.heard true (past ++ LinkDown ∷ []) later.marks
    down_keeps =
        subst (λ (ms : List Marked). Keeps settings before ahead spelt e.heard true (past ++ LinkDown ∷ []) ms) (sym marks_are)
        (subst (λ (hs : List Heard). Keeps settings before ahead spelt hs true (past ++ LinkDown ∷ []) (e.stays.marks ++ last ∷ [])) (append-nil e.heard)
        (subst (λ (b : Bool). Keeps settings before ahead spelt (e.heard ++ []) b (past ++ LinkDown ∷ []) (e.stays.marks ++ last ∷ [])) (or_true e.closed)
        (keeps_more settings before ahead spelt e.heard past at LinkDown e.stays serves e.closed (λ shut. refl) e.keeps)))

    down_ends : Ends settings before ahead spelt w quiet (past ++ LinkDown ∷ []) (done LinkDown at) client
    down_ends = record { stays = later; heard = e.heard; closed = true; keeps = down_keeps; named = e.named; stored = λ here is. let some = e.stored here is in let more = more_stored in omega (arith, some, more); cancelled = e.cancelled; once = e.once; none = e.none }

    down_begins : Begins (past ++ LinkDown ∷ []) (done LinkDown at) later
    down_begins = record { empty = (ends_quiet settings before past at LinkDown e.stays refl).none; none = ap (heard_over L2cap) marks_are ∙ heard_more L2cap e.stays.marks last }

    down_said : (tail : List Occurrence) → AllSayMarks settings (e.stays.marks ++ mark_of (unmarked e.stays.marks) at LinkDown ∷ []) (done LinkDown at) tail → AllSayMarks settings later.marks (done LinkDown at) tail
    down_said tail said =
        subst (λ (ms : List Marked). AllSayMarks settings ms (done LinkDown at) tail) (sym marks_are)
        (subst (λ (m : Marked). AllSayMarks settings (e.stays.marks ++ m ∷ []) (done LinkDown at) tail) (sym (last_is settings before past at LinkDown e.stays serves)) said)

  -- ---- a client on another channel: nothing comes

  module _ (ahead spelt : List Object) (w : Task) where
    none_brought : (one : Occurrence) (sent come : List (List ℕ)) → sent ≡ [] → IsFrontOf (come ++ come_by one) sent → come_by one ≡ []
    none_brought one sent come none front = by (brings one)
      where
        by : Brings one → come_by one ≡ []
        by b = of_here b.here b.sdu b.is
          where
            of_here : (here : Bool) (sdu : List ℕ) → come_by one ≡ sdu_if here sdu → come_by one ≡ []
            of_here true sdu is = absurd (none_come sent come sdu front.0 none (front.1 ∙ ap (λ (ps : List (List ℕ)). (come ++ ps) ++ front.0) is))
            of_here false sdu is = is

    no_other : (psm : ℕ) → (psm == object_psm) ≡ false → psm ≡ object_psm → ⊥
    no_other psm away here = let f : true ≡ false = sym (ap (λ (n : ℕ). n == object_psm) here) ∙ away in cc

    away_walks : (moves : List Move) (past : List Occurrence) (at : Reacted) (client : Client) (pipes : Pipes) (tail : List Occurrence) (s : Stays settings before past at) → Keeps settings before ahead spelt [] pipes.closed past s.marks
        → ((deeds.all_done (client_side moves) client).psm == object_psm) ≡ false → pipes.requests_sent ≡ [] → StayPipes moves client pipes → AllServeDirectly NoneShort at (server_side moves) → AllSayMarks settings s.marks at (server_side moves ++ tail)
        → Behind settings before ahead spelt w false (past ++ server_side moves) (all_done (server_side moves) at) (deeds.all_done (client_side moves) client) tail
    away_walks [] past at client pipes tail s k away none carried serve said =
        subst (λ (os : List Occurrence). Behind settings before ahead spelt w false os at client tail) (sym (append-nil past))
        (record { ends = record { stays = s; heard = []; closed = pipes.closed; keeps = k; named = tt; stored = λ here. absurd (no_other client.psm away here); cancelled = λ is. refl; once = λ shelf held. inl refl; none = λ is. refl }; said = said })
    away_walks (OfServer one ∷ moves) past at client pipes tail s k away none carried serve said =
        let nothing = none_brought one pipes.requests_sent pipes.requests_come none carried.0.requests in
        let mark = marked_at settings before past at one s serve.0 in
        let later = keeps_more settings before ahead spelt [] past at one s serve.0 pipes.closed (λ shut. nothing) k in
        let next = stays_more settings before past at one s serve.0 in
        subst (λ (os : List Occurrence). Behind settings before ahead spelt w false os (all_done (server_side moves) (done one at)) (deeds.all_done (client_side moves) client) tail) (append_assoc past (one ∷ []) (server_side moves))
        (away_walks moves (past ++ one ∷ []) (done one at) client (pipes_after (OfServer one) client pipes) tail next
        (subst (λ (ms : List Marked). Keeps settings before ahead spelt [] (pipes.closed || closes object_psm one) (past ++ one ∷ []) ms) (sym (marks_later settings before past at one s serve.0))
        (subst (λ (ps : List (List ℕ)). Keeps settings before ahead spelt (heard_as mark ps) (pipes.closed || closes object_psm one) (past ++ one ∷ []) (s.marks ++ record { occurrence = one; refused = mark } ∷ [])) nothing later))
        away none carried.2 serve.1
        (subst (λ (ms : List Marked). AllSayMarks settings ms (done one at) (server_side moves ++ tail)) (sym (marks_later settings before past at one s serve.0))
        (subst (λ (m : Marked). AllSayMarks settings (s.marks ++ m ∷ []) (done one at) (server_side moves ++ tail)) (sym (last_is settings before past at one s serve.0)) said.1)))
    away_walks (OfClient deed ∷ moves) past at client pipes tail s k away none carried serve said =
        away_walks moves past at (deeds.done deed client) (pipes_after (OfClient deed) client pipes) tail s k away
        (ap (λ (ps : List (List ℕ)). ps ++ sent_by deed client) none ∙ none_sent deed client (λ works. ap (λ (n : ℕ). n == object_psm) (sym (same_psm (deed ∷ client_side moves) client works)) ∙ away)) carried.2 serve said

  -- ---- a push on a link of its own

  starts : (past : List Occurrence) (at : Reacted) (s : Stays settings before past at) → Begins past at s → Keeps settings before (faulty.objects settings s.marks) (clear.objects settings past) [] false past s.marks
  starts past at s b = record { stored = sym (append-nil (faulty.objects settings s.marks)); spelled = sym (append-nil (clear.objects settings past)); open_ = λ e. b.none }

  -- what a push leaves, and whether its client did nothing
  record Left (push : Push) (ahead spelt : List Object) (past : List Occurrence) (at : Reacted) (tail : List Occurrence) : Type 0 where
    quiet : Bool
    still : client_side push.moves ≡ [] → quiet ≡ true
    behind : Behind settings before ahead spelt (task_of push) quiet past at (client_of push) tail

  -- ---- a client that does nothing: nothing comes either

  still_walks : (ahead spelt : List Object) (w : Task) (moves : List Move) (past : List Occurrence) (at : Reacted) (client : Client) (pipes : Pipes) (tail : List Occurrence) (s : Stays settings before past at) → Keeps settings before ahead spelt [] pipes.closed past s.marks
      → client_side moves ≡ [] → (client.cause ≡ Some outcomes.Done → ⊥) → pipes.requests_sent ≡ [] → StayPipes moves client pipes → AllServeDirectly NoneShort at (server_side moves) → AllSayMarks settings s.marks at (server_side moves ++ tail)
      → Behind settings before ahead spelt w true (past ++ server_side moves) (all_done (server_side moves) at) (deeds.all_done (client_side moves) client) tail
  still_walks ahead spelt w [] past at client pipes tail s k still fresh none carried serve said =
      subst (λ (os : List Occurrence). Behind settings before ahead spelt w true os at client tail) (sym (append-nil past))
      (record { ends = record { stays = s; heard = []; closed = pipes.closed; keeps = k; named = tt; stored = λ here is. absurd (fresh is); cancelled = λ is. refl; once = λ shelf held. inl refl; none = λ is. refl }; said = said })
  still_walks ahead spelt w (OfServer one ∷ moves) past at client pipes tail s k still fresh none carried serve said =
      let nothing = none_brought ahead spelt w one pipes.requests_sent pipes.requests_come none carried.0.requests in
      let mark = marked_at settings before past at one s serve.0 in
      let later = keeps_more settings before ahead spelt [] past at one s serve.0 pipes.closed (λ shut. nothing) k in
      let next = stays_more settings before past at one s serve.0 in
      subst (λ (os : List Occurrence). Behind settings before ahead spelt w true os (all_done (server_side moves) (done one at)) (deeds.all_done (client_side moves) client) tail) (append_assoc past (one ∷ []) (server_side moves))
      (still_walks ahead spelt w moves (past ++ one ∷ []) (done one at) client (pipes_after (OfServer one) client pipes) tail next
      (subst (λ (ms : List Marked). Keeps settings before ahead spelt [] (pipes.closed || closes object_psm one) (past ++ one ∷ []) ms) (sym (marks_later settings before past at one s serve.0))
      (subst (λ (ps : List (List ℕ)). Keeps settings before ahead spelt (heard_as mark ps) (pipes.closed || closes object_psm one) (past ++ one ∷ []) (s.marks ++ record { occurrence = one; refused = mark } ∷ [])) nothing later))
      still fresh none carried.2 serve.1
      (subst (λ (ms : List Marked). AllSayMarks settings ms (done one at) (server_side moves ++ tail)) (sym (marks_later settings before past at one s serve.0))
      (subst (λ (m : Marked). AllSayMarks settings (s.marks ++ m ∷ []) (done one at) (server_side moves ++ tail)) (sym (last_is settings before past at one s serve.0)) said.1)))
  still_walks ahead spelt w (OfClient deed ∷ moves) past at client pipes tail s k still fresh none carried serve said = absurd (let never : deed ∷ client_side moves ≡ [] = still in cc)

  -- ---- either

  unmet : (push : Push) → (begun_of push).contact ≡ Met → ⊥
  unmet push e = let f : Unmet ≡ Met = e in cc

  fresh : (push : Push) → (begun_of push).cause ≡ Some outcomes.Done → ⊥
  fresh push e = let f : None ≡ Some outcomes.Done = e in cc

  link_ends : (push : Push) (offered : IsOffered push) (past : List Occurrence) (at : Reacted) (tail : List Occurrence) (s : Stays settings before past at) → Begins past at s → AllServeDirectly NoneShort at (server_side push.moves)
      → AllSayMarks settings s.marks at (server_side push.moves ++ tail)
      → Left push (faulty.objects settings s.marks) (clear.objects settings past) (past ++ server_side push.moves) (all_done (server_side push.moves) at) tail
  link_ends push offered past at tail s b serve said = by (client_side push.moves) refl
    where
      quiet : success_in [] ≡ 0
      quiet = refl

      works : Behind settings before (faulty.objects settings s.marks) (clear.objects settings past) (task_of push) false (past ++ server_side push.moves) (all_done (server_side push.moves) at) (client_of push) tail
      works =
          elim (cases_Bool ((client_of push).psm == object_psm)) [
            | inl here ↦
                walks settings before (faulty.objects settings s.marks) (clear.objects settings past) (task_of push) push.moves past at (begun_of push) no_pipes [] tail
                (record {
                  stays = s;
                  keeps = starts past at s b;
                  come = refl;
                  front = ([], refl);
                  direct = offered.direct;
                  stands = begun_so (task_of push) push.client offered.may refl refl;
                  said = (let none = ap success_in b.empty in let nothing = quiet in omega (arith, none, nothing));
                  met = λ m. absurd (unmet push m.1);
                  stored = λ is. absurd (fresh push is);
                })
                offered.answers (on_object push.moves (begun_of push) (eqb-true (client_of push).psm object_psm here)) offered.carried serve said
            | inr away ↦ away_walks (faulty.objects settings s.marks) (clear.objects settings past) (task_of push) push.moves past at (begun_of push) no_pipes tail s (starts past at s b) away refl offered.carried serve said
          ]

      by : (side : List Deed) → client_side push.moves ≡ side → Left push (faulty.objects settings s.marks) (clear.objects settings past) (past ++ server_side push.moves) (all_done (server_side push.moves) at) tail
      by [] is = record {
        quiet = true;
        still = λ none. refl;
        behind = still_walks (faulty.objects settings s.marks) (clear.objects settings past) (task_of push) push.moves past at (begun_of push) no_pipes tail s (starts past at s b) is (fresh push) refl offered.carried serve said;
      }
      by (deed ∷ side) is = record { quiet = false; still = λ none. absurd (let never : deed ∷ side ≡ [] = sym is ∙ none in cc); behind = works }

  -- ---- push after push

  pub serve_front : (front behind : List Occurrence) (at : Reacted) → AllServeDirectly NoneShort at (front ++ behind) → AllServeDirectly NoneShort at front × AllServeDirectly NoneShort (all_done front at) behind
  serve_front [] behind at serve = (tt, serve)
  serve_front (one ∷ front) behind at serve =
      let rest = serve_front front behind (done one at) serve.1 in
      ((serve.0, rest.0), rest.1)

  done_joined : (front behind : List Occurrence) (at : Reacted) → all_done (front ++ behind) at ≡ all_done behind (all_done front at)
  done_joined [] behind at = refl
  done_joined (one ∷ front) behind at = done_joined front behind (done one at)

  -- ---- what each of them spells, and what is gained of it

  abbrev new : Reacted
  new = new_over settings before

  same_some : (xs ys : List Object) → Some xs ≡ Some ys → xs ≡ ys
  same_some xs ys is = cc

  gained_here : (past now : List Occurrence) (at at' : Reacted) (s : Stays settings before past at) (s' : Stays settings before now at') (kept : List Object) → at ≡ all_done past new → at' ≡ all_done now new
      → faulty.objects settings s'.marks ≡ faulty.objects settings s.marks ++ kept → (gain : List Object) → HasGained settings before past gain → HasGained settings before now (gain ++ kept)
  gained_here past now at at' s s' kept at_is now_is more gain held =
      let were : before ++ faulty.objects settings s.marks ≡ before ++ gain = same_some _ _ (sym (ap stored_in s.holds.upholds.listens.serves.stands.holds) ∙ (ap (λ (r : Reacted). stored_in r.gift.content) at_is ∙ held)) in
      let same : faulty.objects settings s.marks ≡ gain = append_cancel_left before (faulty.objects settings s.marks) gain were in
      ap (λ (r : Reacted). stored_in r.gift.content) (sym now_is) ∙ (ap stored_in s'.holds.upholds.listens.serves.stands.holds ∙ ap (λ (os : List Object). Some (before ++ os)) (more ∙ ap (λ (os : List Object). os ++ kept) same))

  spells_here : (push : Push) (past now : List Occurrence) (at at' : Reacted) (tail : List Occurrence) (s : Stays settings before past at) → at ≡ all_done past new → at' ≡ all_done now new → Link (faulty.objects settings s.marks) (clear.objects settings past) push now at' tail
      → SpellsHere settings before past now push
  spells_here push past now at at' tail s at_is now_is one = record {
    gained = one.kept;
    here = one.here;
    spelled = one.spelled;
    stored = gained_here past now at at' s one.stays one.kept at_is now_is one.stored;
    kept = one.fits;
  }

  each_spells : (pushes : List Push) (last : Push) (past : List Occurrence) (at : Reacted) (s : Stays settings before past at) → at ≡ all_done past new → Begins past at s → AllByRecursion IsOffered pushes → IsOffered last → AllServeDirectly NoneShort at (over_pushes pushes last)
      → AllSayMarks settings s.marks at (over_pushes pushes last) → SpellEach settings before past pushes last
  unfolding link_of down_ends
  each_spells [] last past at s at_is b offered over serve said =
      let side = server_side last.moves in
      let e = link_ends last over past at [] s b serve (subst (AllSayMarks settings s.marks at) (sym (append-nil side)) said) in
      spells_here last past (past ++ side) at (all_done side at) [] s at_is (ap (all_done side) at_is ∙ sym (done_joined past side new))
      (link_of (faulty.objects settings s.marks) (clear.objects settings past) last (task_of last) (past ++ side) (all_done side at) [] e.quiet e.still refl e.behind)
  each_spells (push ∷ pushes) last past at s at_is b offered over serve said =
      let ahead = faulty.objects settings s.marks in
      let spelt = clear.objects settings past in
      let w = task_of push in
      let front = server_side push.moves in
      let others : List Occurrence = over_pushes pushes last in
      let same : front ++ LinkDown ∷ others ≡ over_pushes (push ∷ pushes) last =
      sym (ap (λ (os : List Occurrence). os ++ server_side last.moves) (append_assoc front (LinkDown ∷ []) (flat_map ended_with pushes)) ∙ append_assoc front (LinkDown ∷ flat_map ended_with pushes) (server_side last.moves)) in
      let at' = all_done front at in
      let past' = past ++ front in
      let down_past = past' ++ LinkDown ∷ [] in
      let parts = serve_front front (LinkDown ∷ others) at (subst (AllServeDirectly NoneShort at) (sym same) serve) in
      let e = link_ends push offered.0 past at (LinkDown ∷ others) s b parts.0 (subst (AllSayMarks settings s.marks at) (sym same) said) in
      let serves = parts.1.0 in
      let down = down_ends ahead spelt w e.quiet (client_of push) past' at' e.behind.ends serves in
      let rest_said = down_said ahead spelt w e.quiet (client_of push) past' at' e.behind.ends serves others e.behind.said.1 in
      let one = link_of ahead spelt push w down_past (done LinkDown at') others e.quiet e.still refl (record { ends = down; said = rest_said }) in
      let now_is : done LinkDown at' ≡ all_done down_past new = sym (done_joined past' (LinkDown ∷ []) new ∙ ap (done LinkDown) (done_joined past front new ∙ ap (all_done front) (sym at_is))) in
      let here = spells_here push past down_past at (done LinkDown at') others s at_is now_is one in
      subst (λ (os : List Occurrence). SpellsHere settings before past os push × SpellEach settings before os pushes last) (append_assoc past front (LinkDown ∷ [])) (
        here,
        each_spells pushes last down_past (done LinkDown at') (later ahead spelt w e.quiet (client_of push) past' at' e.behind.ends serves) now_is (down_begins ahead spelt w e.quiet (client_of push) past' at' e.behind.ends serves) offered.1 over parts.1.1 rest_said,
      )

-- ---- the law

pub pushes-spell_each : PushesSpellEach
pushes-spell_each settings before pushes last offered over serve =
    let first = first_stays settings before in
    let but = gains-all_but_refusals settings before (over_pushes pushes last) (all_may_miss settings before (over_pushes pushes last) [] (new_over settings before) first serve) in
    each_spells settings before pushes last [] (new_over settings before) first refl (record { empty = refl; none = refl }) offered over serve but.said
