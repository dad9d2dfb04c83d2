use Rattle.std.proofs.Common.{◌≡◌, ◌∷◌, ◌++◌, ◌∙◌, [], ℕ, ap, eqb}
use Rattle.std.proofs.lemmas.List.{map_push}
use Rattle.obex_headers.specs.declared.runs.Verdict.TheVariants.{Refused, Open, Whole}
use Rattle.obex_headers.specs.Reader.{plain_headers, object_seen, objects_seen}
use Rattle.obex_headers.specs.Runs.{put_in}
use Rattle.obex_headers.proofs.ReaderLaws.{both_sound, said, cleared, heard_open, heard_refused, heard_whole}
use Rattle.obex_headers.proofs.runs.hear.Goals as goal

is_final_by : (lent octet code : ℕ) → octet ≡ 0x82 → lent ≡ code → eqb lent octet ≡ eqb code 0x82
is_final_by lent octet code o c = ap (eqb lent) o ∙ ap (λ (n : ℕ). eqb n 0x82) c

pub returns-in-Open : goal.returns-in-Open
returns-in-Open c = λ past holds.
    let p = c.in-Some.ensures in
    let more = c.in_ok-go_on.ensures p.0.headers p.2 p.3.headers in
    let says = said _ c.go_on.new.run.items c.deref.result.now _ Open c.deref.ensures.value c.in-Open.is c.in_ok-judge.ensures in
    heard_open (put_in c.args.octets.now) (objects_seen c.args.objects.now.items) past p.0 (plain_headers c.args.run.now.items) (plain_headers c.go_on.new.run.items) _ p.1 holds.0 more
    (both_sound (plain_headers c.args.run.now.items) p.0.headers (plain_headers c.go_on.new.run.items) holds.1 p.2 more) (is_final_by c.in-Some.packet.code c.octet.result p.0.code c.octet.ensures p.3.code) says

pub returns-in-Refused : goal.returns-in-Refused
returns-in-Refused c = λ past holds.
    let p = c.in-Some.ensures in
    let more = c.in_ok-go_on.ensures p.0.headers p.2 p.3.headers in
    let says = said _ c.go_on.new.run.items c.deref.result.now _ Refused c.deref.ensures.value c.in-Refused.is c.in_ok-judge.ensures in
    cleared (put_in c.args.octets.now) (objects_seen c.args.objects.now.items) (objects_seen c.args.objects.now.items) past c.clear-in-Refused.new.self.items c.clear-in-Refused.ensures.items
    (heard_refused (put_in c.args.octets.now) (objects_seen c.args.objects.now.items) past p.0 (plain_headers c.args.run.now.items) (plain_headers c.go_on.new.run.items) _ p.1 holds.0 more (is_final_by c.in-Some.packet.code c.octet.result p.0.code c.octet.ensures p.3.code) says)

pub returns-in_ok-push-in-Whole : goal.returns-in_ok-push-in-Whole
returns-in_ok-push-in-Whole c = λ past holds.
    let p = c.in-Some.ensures in
    let more = c.in_ok-go_on.ensures p.0.headers p.2 p.3.headers in
    let says = said _ c.go_on.new.run.items c.deref.result.now _ (Whole c.in-Whole.object) c.deref.ensures.value c.in-Whole.is c.in_ok-judge.ensures in
    let stored : objects_seen c.push.new.self.items ≡ objects_seen c.args.objects.now.items ++ object_seen c.in-Whole.object ∷ [] = ap objects_seen c.in_ok-push-in-Whole.ensures.items ∙ map_push object_seen c.args.objects.now.items c.in-Whole.object in
    cleared (put_in c.args.octets.now) (objects_seen c.args.objects.now.items) (objects_seen c.push.new.self.items) past c.clear-in-Whole.new.self.items c.clear-in-Whole.ensures.items
    (heard_whole (put_in c.args.octets.now) (objects_seen c.args.objects.now.items) (objects_seen c.push.new.self.items) past p.0 (plain_headers c.args.run.now.items) (plain_headers c.go_on.new.run.items) _ c.in-Whole.object p.1 holds.0 more
    (is_final_by c.in-Some.packet.code c.octet.result p.0.code c.octet.ensures p.3.code) says stored)
