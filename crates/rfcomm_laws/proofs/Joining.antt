-- Two sides with an open user channel stay a pipe each way.
use Rattle.std.proofs.Common.{arith, ◌≡◌, ◌<◌, ◌≤◌, ℕ, ◌==◌, ◌+◌, Bool, true, false, ◌&&◌, cond, List, [], ◌∷◌, ◌++◌, length, take, map, Option, Some, None, refl, sym, ap, subst, ◌∙◌, append_assoc}
use Rattle.std.specs.Prelude.{not, nat_lt, nat_le}
use Rattle.std.proofs.lemmas.Bool.{eq-eqb, ne_eqb}
use Rattle.std.proofs.lemmas.List.{append-nil, map-append}
use Rattle.rfcomm_frames.specs.declared.frame.MuxKind.TheVariants.{Ua}
use Rattle.rfcomm_frames.specs.declared.connection.Role.{Role}
use Rattle.rfcomm_frames.specs.declared.connection.Role.TheVariants.{Initiator, Responder}
use Rattle.rfcomm_frames.specs.Frames.{PlainFrame}
use Rattle.rfcomm_frames.specs.FrameReading.{is_empty}
use Rattle.rfcomm_model.specs.Machine.{Mux, may_pass, is_ready}
use Rattle.rfcomm_model.specs.Written.{response_frame}
use Rattle.rfcomm_model.specs.Hearing.{control_answered, hears_ua, news}
use Rattle.rfcomm_model.specs.Sides.{handed}
use Rattle.rfcomm_frames.specs.Connections.{turned}
use Rattle.rfcomm_model.specs.Saying.{Said, next}
use Rattle.rfcomm_laws.specs.Pairs.{End, Speak, Give, Deliver, spoken, taking, hearing, handed_by, Pair, Turn, ByInitiator, ByResponder, turn, Pipes}
use Rattle.rfcomm_laws.proofs.Running.{Item, frame_of, cost, bonus, asking_by, telling_by, flow, costs, bonuses, askings, tellings, flows, is_due, is_awaited, own_bit, peer_bit, CanCome, Body, due, mux_at, Goes, SaysItem, side_speaks, Heard, item_heard}

-- ---- lists of items

costs_more : (xs : List Item) (x : Item) → costs (xs ++ x ∷ []) ≡ costs xs + cost x
costs_more [] x = omega arith
costs_more (y ∷ ys) x = omega (arith, costs_more ys x)

bonuses_more : (xs : List Item) (x : Item) → bonuses (xs ++ x ∷ []) ≡ bonuses xs + bonus x
bonuses_more [] x = omega arith
bonuses_more (y ∷ ys) x = omega (arith, bonuses_more ys x)

askings_more : (xs : List Item) (x : Item) → askings (xs ++ x ∷ []) ≡ askings xs + asking_by x
askings_more [] x = omega arith
askings_more (y ∷ ys) x = omega (arith, askings_more ys x)

tellings_more : (xs : List Item) (x : Item) → tellings (xs ++ x ∷ []) ≡ tellings xs + telling_by x
tellings_more [] x = omega arith
tellings_more (y ∷ ys) x = omega (arith, tellings_more ys x)

flows_more : (xs : List Item) (x : Item) → flows (xs ++ x ∷ []) ≡ flows xs ++ flow x
flows_more [] x = append-nil (flow x)
flows_more (y ∷ ys) x = ap (λ (zs : List ℕ). flow y ++ zs) (flows_more ys x) ∙ sym (append_assoc (flow y) (flows ys) (flow x))

-- ---- the pair

-- until the initiator has heard UA, that frame is ahead of all others
abbrev pub ahead : ℕ → Bool → List PlainFrame
ahead d true = []
ahead d false = response_frame Responder Ua d ∷ []

abbrev pub end_at : Role → ℕ → Bool → Body → List PlainFrame → (put got : List ℕ) → End
end_at role d is_open b queue put got = record { mux = mux_at role d is_open b; queue = queue; put = put; got = got }

abbrev pub pair_at : ℕ → Bool → (bi br : Body) → (xs ys : List Item) → (pi gi pr gr : List ℕ) → Pair
pair_at d is_open bi br xs ys pi gi pr gr = record {
  initiator = end_at Initiator d is_open bi (map (frame_of Initiator d) xs) pi gi;
  responder = end_at Responder d true br (ahead d is_open ++ map (frame_of Responder d) ys) pr gr;
}

-- the credits of one side are held by the other, or under way; so is the one MSC command of each side, or its answer
pub record Tally (is_open : Bool) (bi br : Body) (xs ys : List Item) : Type 0 where
  pub forth : br.peer ≡ bi.held + (costs xs + bonuses ys)
  pub back : bi.peer ≡ br.held + (costs ys + bonuses xs)
  pub few : bi.peer ≤ 40
  pub few_peer : br.peer ≤ 40
  pub cap : bi.cap ≤ 40
  pub cap_peer : br.cap ≤ 40
  pub some : 1 ≤ bi.cap
  pub some_peer : 1 ≤ br.cap
  pub asked_forth : askings xs + (br.answers + tellings ys) ≡ is_awaited bi.wish
  pub asked_back : askings ys + (bi.answers + tellings xs) ≡ is_awaited br.wish
  pub own_forth : own_bit bi.ready + (is_awaited bi.wish + is_due bi.wish) ≡ 1
  pub own_back : own_bit br.ready + (is_awaited br.wish + is_due br.wish) ≡ 1
  pub peer_forth : peer_bit br.ready + (askings xs + is_due bi.wish) ≡ 1
  pub peer_back : peer_bit bi.ready + (askings ys + is_due br.wish) ≡ 1
  pub early : is_open ≡ false → is_due bi.wish ≡ 1

pub record Runs (d : ℕ) (p : Pair) : Type 0 where
  pub is_open : Bool
  pub bi : Body
  pub br : Body
  pub xs : List Item
  pub ys : List Item
  pub pi : List ℕ
  pub gi : List ℕ
  pub pr : List ℕ
  pub gr : List ℕ
  pub is : p ≡ pair_at d is_open bi br xs ys pi gi pr gr
  pub tally : Tally is_open bi br xs ys
  pub forth : pi ≡ gr ++ (flows xs ++ bi.waiting)
  pub back : pr ≡ gi ++ (flows ys ++ br.waiting)

-- ---- a side speaks

-- one more item on the way
under_way : (got : List ℕ) (xs : List Item) (x : Item) (b b' : Body) → Goes x b b' → got ++ (flows xs ++ b.waiting) ≡ got ++ (flows (xs ++ x ∷ []) ++ b'.waiting)
under_way got xs x b b' goes =
    ap (λ (ws : List ℕ). got ++ (flows xs ++ ws)) goes.waiting
    ∙ ap (λ (zs : List ℕ). got ++ zs) (sym (append_assoc (flows xs) (flow x) b'.waiting) ∙ ap (λ (zs : List ℕ). zs ++ b'.waiting) (sym (flows_more xs x)))

initiator_speaks : (d : ℕ) (is_open : Bool) (bi br : Body) (xs ys : List Item) (pi gi pr gr : List ℕ) → Tally is_open bi br xs ys → pi ≡ gr ++ (flows xs ++ bi.waiting) → pr ≡ gi ++ (flows ys ++ br.waiting)
    → (o : Option Said) → SaysItem Initiator d is_open bi o
    → Runs d (record { initiator = spoken o (end_at Initiator d is_open bi (map (frame_of Initiator d) xs) pi gi); responder = end_at Responder d true br (ahead d is_open ++ map (frame_of Responder d) ys) pr gr })
initiator_speaks d is_open bi br xs ys pi gi pr gr tally forth back None s =
    record { is_open = is_open; bi = bi; br = br; xs = xs; ys = ys; pi = pi; gi = gi; pr = pr; gr = gr; is = refl; tally = tally; forth = forth; back = back }
initiator_speaks d is_open bi br xs ys pi gi pr gr tally forth back (Some said) s =
    let goes = s.goes in
    let c = costs_more xs s.item in
    let n = bonuses_more xs s.item in
    let a = askings_more xs s.item in
    let u = tellings_more xs s.item in
    let own = ap own_bit goes.ready_is in
    let peer = ap peer_bit goes.ready_is in
    record {
      is_open = is_open;
      bi = s.b';
      br = br;
      xs = xs ++ s.item ∷ [];
      ys = ys;
      pi = pi;
      gi = gi;
      pr = pr;
      gr = gr;
      is = ap
          (λ (x : Said). let p : Pair = record { initiator = record { mux = x.after; queue = map (frame_of Initiator d) xs ++ x.frame ∷ []; put = pi; got = gi }; responder = end_at Responder d true br (ahead d is_open ++ map (frame_of Responder d) ys) pr gr } in p)
          s.said_is
          ∙ ap (λ (queue : List PlainFrame). let p : Pair = record { initiator = end_at Initiator d is_open s.b' queue pi gi; responder = end_at Responder d true br (ahead d is_open ++ map (frame_of Responder d) ys) pr gr } in p)
          (sym (map-append (frame_of Initiator d) xs (s.item ∷ [])));
      tally = record {
        forth = omega (arith, c, goes.held, tally.forth);
        back = omega (arith, n, goes.peer, tally.back);
        few = goes.within tally.few tally.cap;
        few_peer = tally.few_peer;
        cap = omega (arith, goes.cap, tally.cap);
        cap_peer = tally.cap_peer;
        some = omega (arith, goes.cap, tally.some);
        some_peer = tally.some_peer;
        asked_forth = omega (arith, a, goes.awaited_is, tally.asked_forth);
        asked_back = omega (arith, u, goes.answers_are, tally.asked_back);
        own_forth = omega (arith, own, goes.due_is, goes.awaited_is, tally.own_forth);
        own_back = tally.own_back;
        peer_forth = omega (arith, a, goes.due_is, tally.peer_forth);
        peer_back = omega (arith, peer, tally.peer_back);
        early = λ e. let quiet = s.early e in let first = tally.early e in omega (arith, quiet, first, goes.due_is);
      };
      forth = forth ∙ under_way gr xs s.item bi s.b' goes;
      back = back;
    }

responder_speaks : (d : ℕ) (is_open : Bool) (bi br : Body) (xs ys : List Item) (pi gi pr gr : List ℕ) → Tally is_open bi br xs ys → pi ≡ gr ++ (flows xs ++ bi.waiting) → pr ≡ gi ++ (flows ys ++ br.waiting)
    → (o : Option Said) → SaysItem Responder d true br o
    → Runs d (record { initiator = end_at Initiator d is_open bi (map (frame_of Initiator d) xs) pi gi; responder = spoken o (end_at Responder d true br (ahead d is_open ++ map (frame_of Responder d) ys) pr gr) })
responder_speaks d is_open bi br xs ys pi gi pr gr tally forth back None s =
    record { is_open = is_open; bi = bi; br = br; xs = xs; ys = ys; pi = pi; gi = gi; pr = pr; gr = gr; is = refl; tally = tally; forth = forth; back = back }
responder_speaks d is_open bi br xs ys pi gi pr gr tally forth back (Some said) s =
    let goes = s.goes in
    let c = costs_more ys s.item in
    let n = bonuses_more ys s.item in
    let a = askings_more ys s.item in
    let u = tellings_more ys s.item in
    let own = ap own_bit goes.ready_is in
    let peer = ap peer_bit goes.ready_is in
    record {
      is_open = is_open;
      bi = bi;
      br = s.b';
      xs = xs;
      ys = ys ++ s.item ∷ [];
      pi = pi;
      gi = gi;
      pr = pr;
      gr = gr;
      is = ap
          (λ (x : Said). let p : Pair = record { initiator = end_at Initiator d is_open bi (map (frame_of Initiator d) xs) pi gi; responder = record { mux = x.after; queue = (ahead d is_open ++ map (frame_of Responder d) ys) ++ x.frame ∷ []; put = pr; got = gr } } in p)
          s.said_is
          ∙ ap (λ (queue : List PlainFrame). let p : Pair = record { initiator = end_at Initiator d is_open bi (map (frame_of Initiator d) xs) pi gi; responder = end_at Responder d true s.b' queue pr gr } in p)
          (append_assoc (ahead d is_open) (map (frame_of Responder d) ys) (frame_of Responder d s.item ∷ [])
          ∙ ap (λ (queue : List PlainFrame). ahead d is_open ++ queue) (sym (map-append (frame_of Responder d) ys (s.item ∷ []))));
      tally = record {
        forth = omega (arith, n, goes.peer, tally.forth);
        back = omega (arith, c, goes.held, tally.back);
        few = tally.few;
        few_peer = goes.within tally.few_peer tally.cap_peer;
        cap = tally.cap;
        cap_peer = omega (arith, goes.cap, tally.cap_peer);
        some = tally.some;
        some_peer = omega (arith, goes.cap, tally.some_peer);
        asked_forth = omega (arith, u, goes.answers_are, tally.asked_forth);
        asked_back = omega (arith, a, goes.awaited_is, tally.asked_back);
        own_forth = tally.own_forth;
        own_back = omega (arith, own, goes.due_is, goes.awaited_is, tally.own_back);
        peer_forth = omega (arith, peer, tally.peer_forth);
        peer_back = omega (arith, a, goes.due_is, tally.peer_back);
        early = tally.early;
      };
      forth = forth;
      back = back ∙ under_way gi ys s.item br s.b' goes;
    }

-- ---- octets are given

-- what waits is in no account
tally_given : (is_open : Bool) (bi br : Body) (xs ys : List Item) (wi wr : List ℕ) → Tally is_open bi br xs ys → Tally is_open (record bi { waiting = wi }) (record br { waiting = wr }) xs ys
tally_given is_open bi br xs ys wi wr tally = record {
  forth = tally.forth;
  back = tally.back;
  few = tally.few;
  few_peer = tally.few_peer;
  cap = tally.cap;
  cap_peer = tally.cap_peer;
  some = tally.some;
  some_peer = tally.some_peer;
  asked_forth = tally.asked_forth;
  asked_back = tally.asked_back;
  own_forth = tally.own_forth;
  own_back = tally.own_back;
  peer_forth = tally.peer_forth;
  peer_back = tally.peer_back;
  early = tally.early;
}

both_true : (a b : Bool) → (a && b) ≡ true → (a ≡ true) × (b ≡ true)
both_true true b is = (refl, is)
both_true false b is = let never : false ≡ true = is in cc

empty_is : (xs : List ℕ) → is_empty xs ≡ true → xs ≡ []
empty_is [] is = refl
empty_is (x ∷ xs) is = let never : false ≡ true = is in cc

-- what is taken waits
pub record Takes (role : Role) (d : ℕ) (is_open : Bool) (b : Body) (queue : List PlainFrame) (put got : List ℕ) (e : End) : Type 0 where
  pub ws : List ℕ
  pub more : List ℕ
  pub is : e ≡ end_at role d is_open (record b { waiting = ws }) queue (put ++ more) got
  pub waits : ws ≡ b.waiting ++ more

take_if : (role : Role) (d : ℕ) (is_open : Bool) (b : Body) (queue : List PlainFrame) (put got octets : List ℕ) (k : ℕ) (test : Bool) → (test ≡ true → b.waiting ≡ [])
    → Takes role d is_open b queue put got
    (record { mux = cond test (record (mux_at role d is_open b) { waiting = take (cond test k 0) octets }) (mux_at role d is_open b); queue = queue; put = put ++ take (cond test k 0) octets; got = got })
take_if role d is_open b queue put got octets k true free =
    record { ws = take k octets; more = take k octets; is = refl; waits = ap (λ (w : List ℕ). w ++ take k octets) (sym (free refl)) }
take_if role d is_open b queue put got octets k false free = record { ws = b.waiting; more = []; is = refl; waits = sym (append-nil b.waiting) }

give_if : (role : Role) (d : ℕ) (is_open : Bool) (b : Body) (queue : List PlainFrame) (put got octets : List ℕ) (may : Bool)
    → Takes role d is_open b queue put got (cond may (taking octets (end_at role d is_open b queue put got)) (end_at role d is_open b queue put got))
give_if role d is_open b queue put got octets true =
    take_if role d is_open b queue put got octets (cond (nat_le (length octets) b.frame) (length octets) b.frame) (is_empty b.waiting && nat_lt 0 b.held)
    (λ is. empty_is b.waiting (both_true (is_empty b.waiting) (nat_lt 0 b.held) is).0)
give_if role d is_open b queue put got octets false =
    record { ws = b.waiting; more = []; is = ap (λ (xs : List ℕ). end_at role d is_open b queue xs got) (sym (append-nil put)); waits = sym (append-nil b.waiting) }

waiting_more : (put got ws more waiting : List ℕ) (xs : List Item) → put ≡ got ++ (flows xs ++ waiting) → ws ≡ waiting ++ more → put ++ more ≡ got ++ (flows xs ++ ws)
waiting_more put got ws more waiting xs is waits =
    ap (λ (p : List ℕ). p ++ more) is ∙ append_assoc got (flows xs ++ waiting) more ∙ ap (λ (zs : List ℕ). got ++ zs) (append_assoc (flows xs) waiting more) ∙ ap (λ (zs : List ℕ). got ++ (flows xs ++ zs)) (sym waits)

-- ---- a frame comes

item_more : (put got : List ℕ) (x : Item) (xs : List Item) (waiting : List ℕ) → put ≡ got ++ (flows (x ∷ xs) ++ waiting) → put ≡ (got ++ flow x) ++ (flows xs ++ waiting)
item_more put got x xs waiting is = is ∙ ap (λ (zs : List ℕ). got ++ zs) (append_assoc (flow x) (flows xs) waiting) ∙ sym (append_assoc got (flow x) (flows xs ++ waiting))

-- the item that comes first may be taken
forth_comes : (is_open : Bool) (bi br : Body) (x : Item) (xs ys : List Item) → Tally is_open bi br (x ∷ xs) ys → CanCome x br
forth_comes is_open bi br x xs ys tally = record {
  fits = omega (arith, tally.back, tally.few);
  paid = omega (arith, tally.forth);
  room = omega (arith, tally.asked_forth, tally.own_forth);
  asked_once = omega (arith, tally.peer_forth);
  told_once = omega (arith, tally.own_back, tally.asked_back);
  awaited = omega (arith, tally.asked_back);
}

back_comes : (is_open : Bool) (bi br : Body) (y : Item) (xs ys : List Item) → Tally is_open bi br xs (y ∷ ys) → CanCome y bi
back_comes is_open bi br y xs ys tally = record {
  fits = omega (arith, tally.forth, tally.few_peer);
  paid = omega (arith, tally.back);
  room = omega (arith, tally.asked_back, tally.own_back);
  asked_once = omega (arith, tally.peer_back);
  told_once = omega (arith, tally.own_forth, tally.asked_forth);
  awaited = omega (arith, tally.asked_forth);
}

-- the initiator hears UA: its MSC command is due
tally_opened : (bi br : Body) (xs ys : List Item) → Tally false bi br xs ys → Tally true (record bi { wish = due }) br xs ys
tally_opened bi br xs ys tally =
    let first = tally.early refl in
    record {
      forth = tally.forth;
      back = tally.back;
      few = tally.few;
      few_peer = tally.few_peer;
      cap = tally.cap;
      cap_peer = tally.cap_peer;
      some = tally.some;
      some_peer = tally.some_peer;
      asked_forth = omega (arith, first, tally.asked_forth, tally.own_forth);
      asked_back = tally.asked_back;
      own_forth = omega (arith, first, tally.own_forth);
      own_back = tally.own_back;
      peer_forth = omega (arith, first, tally.peer_forth);
      peer_back = tally.peer_back;
      early = λ e. let never : true ≡ false = e in cc;
    }

-- a side hears an item
heard_end : (role from : Role) (d : ℕ) (b : Body) (item : Item) (queue : List PlainFrame) (put got : List ℕ) (frames : List PlainFrame) (h : Heard role d item (frame_of from d item) b)
    → hearing (frame_of from d item ∷ frames) (end_at role d true b queue put got) ≡ end_at role d true h.b' queue put (got ++ flow item)
heard_end role from d b item queue put got frames h =
    ap (λ (m : Mux). let e : End = record { mux = m; queue = queue; put = put; got = got ++ handed_by (frame_of from d item) (mux_at role d true b) } in e) h.mux_is
    ∙ ap (λ (xs : List ℕ). end_at role d true h.b' queue put (got ++ xs)) h.handed_is

same_runs : (d : ℕ) (is_open : Bool) (bi br : Body) (xs ys : List Item) (pi gi pr gr : List ℕ) → Tally is_open bi br xs ys → pi ≡ gr ++ (flows xs ++ bi.waiting) → pr ≡ gi ++ (flows ys ++ br.waiting) → (p : Pair)
    → p ≡ pair_at d is_open bi br xs ys pi gi pr gr → Runs d p
same_runs d is_open bi br xs ys pi gi pr gr tally forth back p is =
    record { is_open = is_open; bi = bi; br = br; xs = xs; ys = ys; pi = pi; gi = gi; pr = pr; gr = gr; is = is; tally = tally; forth = forth; back = back }

none_up : (flag : Bool) → handed (news None None flag []) ≡ []
none_up true = refl
none_up false = refl

-- the initiator hears UA
ua_heard : (d : ℕ) (b : Body) (queue frames : List PlainFrame) (put got : List ℕ) → (d == 0) ≡ false → (d == d) ≡ true
    → hearing (response_frame Responder Ua d ∷ frames) (end_at Initiator d false b queue put got) ≡ end_at Initiator d true (record b { wish = due }) queue put got
ua_heard d b queue frames put got zero_not same =
    let m : Mux = mux_at Initiator d false b in
    let m' : Mux = mux_at Initiator d true (record b { wish = due }) in
    let is : hears_ua d m ≡ m' =
    ap (λ (t : Bool). cond t (control_answered m.asks (record m { control = turned Responder Ua m.control })) (cond (d == d) m' m)) zero_not ∙ ap (λ (t : Bool). cond t m' m) same in
    let flag : Bool = is_ready m' && not (is_ready m) in
    ap (λ (x : Mux). let e : End = record { mux = x; queue = queue; put = put; got = got ++ handed (news None x.closed (is_ready x && not (is_ready m)) []) } in e) is
    ∙ ap (λ (xs : List ℕ). end_at Initiator d true (record b { wish = due }) queue put (got ++ xs)) (none_up flag)
    ∙ ap (λ (xs : List ℕ). end_at Initiator d true (record b { wish = due }) queue put xs) (append-nil got)

move : (d : ℕ) → 0 < d → (t : Turn) (is_open : Bool) (bi br : Body) (xs ys : List Item) (pi gi pr gr : List ℕ) → Tally is_open bi br xs ys → pi ≡ gr ++ (flows xs ++ bi.waiting) → pr ≡ gi ++ (flows ys ++ br.waiting)
    → Runs d (turn t (pair_at d is_open bi br xs ys pi gi pr gr))
move d some (ByInitiator Speak) is_open bi br xs ys pi gi pr gr tally forth back =
    initiator_speaks d is_open bi br xs ys pi gi pr gr tally forth back (next (mux_at Initiator d is_open bi)) (side_speaks Initiator d is_open bi)
move d some (ByResponder Speak) is_open bi br xs ys pi gi pr gr tally forth back =
    responder_speaks d is_open bi br xs ys pi gi pr gr tally forth back (next (mux_at Responder d true br)) (side_speaks Responder d true br)
move d some (ByInitiator (Give octets)) is_open bi br xs ys pi gi pr gr tally forth back =
    let t = give_if Initiator d is_open bi (map (frame_of Initiator d) xs) pi gi octets (may_pass (mux_at Initiator d is_open bi)) in
    same_runs d is_open (record bi { waiting = t.ws }) br xs ys (pi ++ t.more) gi pr gr
    (tally_given is_open bi br xs ys t.ws br.waiting tally)
    (waiting_more pi gr t.ws t.more bi.waiting xs forth t.waits) back (turn (ByInitiator (Give octets)) (pair_at d is_open bi br xs ys pi gi pr gr))
    (ap (λ (e : End). let p : Pair = record { initiator = e; responder = end_at Responder d true br (ahead d is_open ++ map (frame_of Responder d) ys) pr gr } in p) t.is)
move d some (ByResponder (Give octets)) is_open bi br xs ys pi gi pr gr tally forth back =
    let queue : List PlainFrame = ahead d is_open ++ map (frame_of Responder d) ys in
    let t = give_if Responder d true br queue pr gr octets (may_pass (mux_at Responder d true br)) in
    same_runs d is_open bi (record br { waiting = t.ws }) xs ys pi gi (pr ++ t.more) gr
    (tally_given is_open bi br xs ys bi.waiting t.ws tally)
    forth (waiting_more pr gi t.ws t.more br.waiting ys back t.waits) (turn (ByResponder (Give octets)) (pair_at d is_open bi br xs ys pi gi pr gr))
    (ap (λ (e : End). let p : Pair = record { initiator = end_at Initiator d is_open bi (map (frame_of Initiator d) xs) pi gi; responder = e } in p) t.is)
move d some (ByInitiator Deliver) is_open bi br [] ys pi gi pr gr tally forth back = same_runs d is_open bi br [] ys pi gi pr gr tally forth back (pair_at d is_open bi br [] ys pi gi pr gr) refl
move d some (ByInitiator Deliver) is_open bi br (x ∷ xs) ys pi gi pr gr tally forth back =
    let h = item_heard Responder Initiator d br x some (forth_comes is_open bi br x xs ys tally) in
    let comes = h.comes in
    same_runs d is_open bi h.b' xs ys pi gi pr (gr ++ flow x)
    (record {
      forth = omega (arith, comes.peer, tally.forth);
      back = omega (arith, comes.held, tally.back);
      few = tally.few;
      few_peer = omega (arith, comes.peer, tally.few_peer);
      cap = tally.cap;
      cap_peer = omega (arith, comes.cap, tally.cap_peer);
      some = tally.some;
      some_peer = omega (arith, comes.cap, tally.some_peer);
      asked_forth = omega (arith, comes.answers_are, tally.asked_forth);
      asked_back = omega (arith, comes.awaited_is, tally.asked_back);
      own_forth = tally.own_forth;
      own_back = omega (arith, comes.own_is, comes.awaited_is, comes.due_is, tally.own_back);
      peer_forth = omega (arith, comes.peer_is, tally.peer_forth);
      peer_back = omega (arith, comes.due_is, tally.peer_back);
      early = tally.early;
    })
    (item_more pi gr x xs bi.waiting forth) (back ∙ ap (λ (ws : List ℕ). gi ++ (flows ys ++ ws)) (sym comes.waiting)) (turn (ByInitiator Deliver) (pair_at d is_open bi br (x ∷ xs) ys pi gi pr gr))
    (ap (λ (e : End). let p : Pair = record { initiator = end_at Initiator d is_open bi (map (frame_of Initiator d) xs) pi gi; responder = e } in p)
    (heard_end Responder Initiator d br x (ahead d is_open ++ map (frame_of Responder d) ys) pr gr (map (frame_of Initiator d) xs) h))
move d some (ByResponder Deliver) true bi br xs [] pi gi pr gr tally forth back = same_runs d true bi br xs [] pi gi pr gr tally forth back (pair_at d true bi br xs [] pi gi pr gr) refl
move d some (ByResponder Deliver) true bi br xs (y ∷ ys) pi gi pr gr tally forth back =
    let h = item_heard Initiator Responder d bi y some (back_comes true bi br y xs ys tally) in
    let comes = h.comes in
    same_runs d true h.b' br xs ys pi (gi ++ flow y) pr gr
    (record {
      forth = omega (arith, comes.held, tally.forth);
      back = omega (arith, comes.peer, tally.back);
      few = omega (arith, comes.peer, tally.few);
      few_peer = tally.few_peer;
      cap = omega (arith, comes.cap, tally.cap);
      cap_peer = tally.cap_peer;
      some = omega (arith, comes.cap, tally.some);
      some_peer = tally.some_peer;
      asked_forth = omega (arith, comes.awaited_is, tally.asked_forth);
      asked_back = omega (arith, comes.answers_are, tally.asked_back);
      own_forth = omega (arith, comes.own_is, comes.awaited_is, comes.due_is, tally.own_forth);
      own_back = tally.own_back;
      peer_forth = omega (arith, comes.due_is, tally.peer_forth);
      peer_back = omega (arith, comes.peer_is, tally.peer_back);
      early = λ e. let never : true ≡ false = e in cc;
    })
    (forth ∙ ap (λ (ws : List ℕ). gr ++ (flows xs ++ ws)) (sym comes.waiting)) (item_more pr gi y ys br.waiting back) (turn (ByResponder Deliver) (pair_at d true bi br xs (y ∷ ys) pi gi pr gr))
    (ap (λ (e : End). let p : Pair = record { initiator = e; responder = end_at Responder d true br (map (frame_of Responder d) ys) pr gr } in p)
    (heard_end Initiator Responder d bi y (map (frame_of Initiator d) xs) pi gi (map (frame_of Responder d) ys) h))
move d some (ByResponder Deliver) false bi br xs ys pi gi pr gr tally forth back =
    same_runs d true (record bi { wish = due }) br xs ys pi gi pr gr
    (tally_opened bi br xs ys tally)
    forth back (turn (ByResponder Deliver) (pair_at d false bi br xs ys pi gi pr gr))
    (ap (λ (e : End). let p : Pair = record { initiator = e; responder = end_at Responder d true br (map (frame_of Responder d) ys) pr gr } in p)
    (ua_heard d bi (map (frame_of Initiator d) xs) (map (frame_of Responder d) ys) pi gi (ne_eqb d 0 (λ e. omega arith)) (eq-eqb d d refl)))

pub runs_on : (d : ℕ) → 0 < d → (t : Turn) (p : Pair) → Runs d p → Runs d (turn t p)
runs_on d some t p r = subst (λ (q : Pair). Runs d (turn t q)) (sym r.is) (move d some t r.is_open r.bi r.br r.xs r.ys r.pi r.gi r.pr r.gr r.tally r.forth r.back)

pub runs_pipe : (d : ℕ) (p : Pair) → Runs d p → Pipes p
runs_pipe d p r =
    subst Pipes (sym r.is)
    (record { initiator_stands = refl; responder_stands = refl; forth = (flows r.xs ++ r.bi.waiting, r.forth); back = (flows r.ys ++ r.br.waiting, r.back) })
