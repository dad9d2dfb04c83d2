-- The next PUT of an object, and what the shelf answered for it.
use Rattle.std.proofs.Common.{◌≡◌, ◌<◌, ◌+◌, ℕ, zero, suc, ◌==◌, Bool, true, false, List, [], ◌∷◌, ◌++◌, length, Option, Result, Ok, Err, refl, sym, ap, subst, ◌∙◌, if◌then◌else◌, arith}
use Rattle.std.proofs.lemmas.Grind.{flat_map-append}
use Rattle.std.proofs.lemmas.List.{append-nil, nil_from_length}
use Rattle.bt_base.specs.Counts.{HasCause}
use Rattle.bt_base.specs.Objects.{Object}
use Rattle.bt_base.specs.Octets.{IsOctets, be16}
use Rattle.bt_base.specs.declared.ports.PortFault.{PortFault}
use Rattle.bt_base.specs.declared.ports.PortFault.TheVariants as fault
use Rattle.obex_headers.specs.Packets.{PlainHeader, header_octets, headers_octets, packet_len, packet_octets}
use Rattle.obex_session.specs.Asking.{Asking}
use Rattle.obex_session.specs.NextPut.{after_put}
use Rattle.obex_session.specs.PutPackets.{ahead_of, body_header, put_packet}
use Rattle.push_model.specs.Client.{Client}
use Rattle.push_model.specs.Steps.{Part, put_count, is_last_put, put_octets, puts_part, puts_from, puts}
use Rattle.push_client.specs.Putting.{IsPut, PutsOr, Comes}
use Rattle.push_client.specs.Requesting.{made_by, is_shortage}
use Rattle.push_model.specs.rfcomm_frames.proofs.Formed.{part_fits}

-- ---- reactions

-- both ends of a reaction go on alike
pub comes_by : {R S : Type 0} (f : R → S) (reaction end : List Part → R) (client : Client) (content : Option (List Object)) (x x' s s' : ℕ) (lacks : Bool)
    → Comes reaction end client content x x' s s' lacks → Comes (λ parts. f (reaction parts)) (λ parts. f (end parts)) client content x x' s s' lacks
comes_by f reaction end client content x x' s s' lacks comes = record {
  used = comes.used;
  comes = λ rest. ap f (comes.comes rest);
  answers = comes.answers;
  short = comes.short;
  faults_stay = comes.faults_stay;
  shortages_stay = comes.shortages_stay;
}

-- they are the same whatever the shelf answers
pub comes_as : {R : Type 0} (reaction reaction' end end' : List Part → R) (client : Client) (content : Option (List Object)) (x x' s s' : ℕ) (lacks : Bool)
    → ((parts : List Part) → reaction' parts ≡ reaction parts) → ((parts : List Part) → end parts ≡ end' parts)
    → Comes reaction end client content x x' s s' lacks → Comes reaction' end' client content x x' s s' lacks
comes_as reaction reaction' end end' client content x x' s s' lacks same same' comes = record {
  used = comes.used;
  comes = λ rest. same (comes.used ++ rest) ∙ comes.comes rest ∙ same' rest;
  answers = comes.answers;
  short = comes.short;
  faults_stay = comes.faults_stay;
  shortages_stay = comes.shortages_stay;
}

-- nothing is asked
pub comes_at_once : {R : Type 0} (reaction end : List Part → R) (client : Client) (content : Option (List Object)) (x s : ℕ) → ((parts : List Part) → reaction parts ≡ end parts) → Comes reaction end client content x x s s false
comes_at_once reaction end client content x s same = record {
  used = [];
  comes = same;
  answers = tt;
  short = λ e. absurd (let f : false ≡ true = e in cc);
  faults_stay = omega arith;
  shortages_stay = omega arith;
}

-- ---- a PUT

put_of : (client : Client) (part : List ℕ) (rest : List Part) → length part ≡ put_count client → (session : Asking) (octets : List ℕ)
    → session ≡ after_put client.session (is_last_put client) (length part) → octets ≡ put_octets client part
    → puts_part (Ok part) client rest ≡ made_by (record client { session = session; going = true; rest = octets }) (Ok tt) rest
put_of client part rest len session octets is are =
    ap (λ (n : ℕ). made_by (record client { session = after_put client.session (is_last_put client) n; going = true; rest = put_octets client part }) (Ok tt) rest) (sym len)
    ∙ ap (λ (a : Asking). made_by (record client { session = a; going = true; rest = put_octets client part }) (Ok tt) rest) (sym is)
    ∙ ap (λ (o : List ℕ). made_by (record client { session = session; going = true; rest = o }) (Ok tt) rest) (sym are)

with_none : (client : Client) (parts : List Part) (n : ℕ) → put_count client ≡ n → puts client parts ≡ (if n == 0 then puts_part (Ok []) client parts else puts_from parts client)
with_none client parts n is = ap (λ (m : ℕ). (if m == 0 then puts_part (Ok []) client parts else puts_from parts client)) is

-- octets of a packet, whose body they end, are octets
part_octets : (final : Bool) (ahead : List PlainHeader) (part : List ℕ) → IsOctets (packet_octets (put_packet final ahead part)) → IsOctets part
part_octets final ahead part are =
    let body = body_header final part in
    let packet = put_packet final ahead part in
    let headers : IsOctets (headers_octets (ahead ++ body ∷ [])) = part_fits (be16 (packet_len packet)) (headers_octets packet.headers) _ refl (λ i. are (suc i)) in
    let last : IsOctets (header_octets body ++ []) = part_fits (headers_octets ahead) (header_octets body ++ []) _ (flat_map-append header_octets ahead (body ∷ [])) headers in
    let whole : IsOctets (header_octets body) = subst IsOctets (append-nil (header_octets body)) last in
    part_fits (be16 (3 + length part)) part _ refl (λ i. whole (suc i))

not_none : (n : ℕ) → (suc n == 0) ≡ false
not_none n = grind arith

pub put_done : (n : ℕ) (client : Client) (session : Asking) (octets : List ℕ) (content : Option (List Object)) (x x' s s' : ℕ) → put_count client ≡ n
    → IsPut client.session session client.name client.size client.limit content octets → IsOctets octets → HasCause x x' s s' (let r : Result (Unit {0}) PortFault = Ok tt in r)
    → Comes (puts client) (made_by (record client { session = session; going = true; rest = octets }) (Ok tt)) client content x x' s s' false
put_done zero client session octets content x x' s s' count put are cause =
    let none : put.part ≡ [] = nil_from_length put.part (put.part_len ∙ count) in
    record {
      used = [];
      comes = λ rest. with_none client rest 0 count ∙ ap (λ (p : List ℕ). puts_part (Ok p) client rest) (sym none) ∙ put_of client put.part rest put.part_len session octets put.session_is put.octets_are;
      answers = tt;
      short = λ e. absurd (let f : false ≡ true = e in cc);
      faults_stay = cause.faults_stay;
      shortages_stay = cause.shortages_stay;
    }
put_done (suc n) client session octets content x x' s s' count put are cause =
    let some : 0 < length put.part = let e = put.part_len ∙ count in omega (arith, e) in
    record {
      used = Ok put.part ∷ [];
      comes = λ rest. with_none client (Ok put.part ∷ rest) (suc n) count
          ∙ ap (λ (b : Bool). (if b then puts_part (Ok []) client (Ok put.part ∷ rest) else puts_from (Ok put.part ∷ rest) client)) (not_none n)
          ∙ put_of client put.part rest put.part_len session octets put.session_is put.octets_are;
      answers = (put.part_len, part_octets (is_last_put client) (ahead_of client.session.wanted client.session.put client.name client.size) put.part (subst IsOctets put.octets_are are), put.told some);
      short = λ e. absurd (let f : false ≡ true = e in cc);
      faults_stay = cause.faults_stay;
      shortages_stay = cause.shortages_stay;
    }

unput : (client : Client) (session : Asking) (octets : List ℕ) → session ≡ client.session → octets ≡ [] → client.rest ≡ [] → client ≡ record client { session = session; rest = octets }
unput client session octets same none empty = ap (λ (a : Asking). record client { session = a }) (sym same) ∙ ap (λ (o : List ℕ). record client { session = session; rest = o }) (empty ∙ sym none)

short_fault : (why : PortFault) (x x' s s' : ℕ) (client : Client) (n : ℕ) (session : Asking) (octets : List ℕ) (content : Option (List Object)) → put_count client ≡ n → 0 < n
    → HasCause x x' s s' (let r : Result (Unit {0}) PortFault = Err why in r) → client ≡ record client { session = session; rest = octets }
    → Comes (puts client) (made_by (record client { session = session; rest = octets }) (Err why)) client content x x' s s' (is_shortage (Err why))
short_fault why x x' s s' client zero session octets content count some cause same = absurd (omega (arith, some))
short_fault fault.Failed x x' s s' client (suc n) session octets content count some cause same = record {
  used = Err fault.Failed ∷ [];
  comes = λ rest. with_none client (Err fault.Failed ∷ rest) (suc n) count
      ∙ ap (λ (b : Bool). (if b then puts_part (Ok []) client (Err fault.Failed ∷ rest) else puts_from (Err fault.Failed ∷ rest) client)) (not_none n)
      ∙ ap (λ (c : Client). made_by c (Err fault.Failed) rest) same;
  answers = cause.failed refl;
  short = λ e. absurd (let f : false ≡ true = e in cc);
  faults_stay = cause.faults_stay;
  shortages_stay = cause.shortages_stay;
}
short_fault fault.NoMemory x x' s s' client (suc n) session octets content count some cause same = record {
  used = Err fault.NoMemory ∷ [];
  comes = λ rest. with_none client (Err fault.NoMemory ∷ rest) (suc n) count
      ∙ ap (λ (b : Bool). (if b then puts_part (Ok []) client (Err fault.NoMemory ∷ rest) else puts_from (Err fault.NoMemory ∷ rest) client)) (not_none n)
      ∙ ap (λ (c : Client). made_by c (Err fault.NoMemory) rest) same;
  answers = cause.short refl;
  short = λ e. cause.short refl;
  faults_stay = cause.faults_stay;
  shortages_stay = cause.shortages_stay;
}

pub put_fails : (why : PortFault) (client : Client) (session : Asking) (octets : List ℕ) (content : Option (List Object)) (x x' s s' : ℕ) → client.rest ≡ []
    → PutsOr client.session session client.name client.size client.limit content octets (Err why) → HasCause x x' s s' (let r : Result (Unit {0}) PortFault = Err why in r)
    → Comes (puts client) (made_by (record client { session = session; rest = octets }) (Err why)) client content x x' s s' (is_shortage (Err why))
put_fails why client session octets content x x' s s' empty puts cause =
    short_fault why x x' s s' client (put_count client) session octets content refl puts.2 cause (unput client session octets puts.0 puts.1 empty)
