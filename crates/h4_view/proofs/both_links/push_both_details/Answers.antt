use Rattle.h4_view.proofs.both_links.push_both_details.Goals as goal

pub returns-in_ok-push_both_piece-in-Acl : goal.returns-in_ok-push_both_piece-in-Acl
returns-in_ok-push_both_piece-in-Acl c = rw c.in-Acl.is c.in_ok-push_both_piece-in-Acl.ensures

pub returns-in_ok-push_both_event-in-Event : goal.returns-in_ok-push_both_event-in-Event
returns-in_ok-push_both_event-in-Event c = rw c.in-Event.is c.in_ok-push_both_event-in-Event.ensures
