-- PUTs that spell an object of any size, with and without the bound on its octets.
use Rattle.std.proofs.Common.{ℕ, ◌≤◌, List, length, sym, subst, arith}
use Rattle.std.specs.List.{AllByRecursion}
use Rattle.bt_base.specs.Objects.{Object}
use Rattle.obex_headers.specs.Packets.{PlainPacket}
use Rattle.obex_headers.specs.Runs.{SpellsObject}
use Rattle.obex_session.specs.AnySize.{SpellsUnbounded, LeavesOnlyTheBound}

pub with_bound : (run : List PlainPacket) (object : Object) → SpellsUnbounded run object → length object.octets ≤ 16777215 → SpellsObject run object
with_bound run object spelling bound = record {
  front = spelling.front;
  last = spelling.last;
  parts = spelling.parts;
  not_final = spelling.not_final;
  final = spelling.final;
  rules = record {
    one_name = subst (λ (ns : List (List ℕ)). length ns ≤ 1) (sym spelling.name) (omega arith);
    short_name = subst (AllByRecursion (λ name. length name ≤ 255)) (sym spelling.name) (spelling.short_name, tt);
    name_first = spelling.name_first;
    bounded = subst (λ (os : List ℕ). length os ≤ 16777215) spelling.octets bound;
  };
  name = spelling.name;
  has_body = spelling.has_body;
  octets = spelling.octets;
}

without_bound : (run : List PlainPacket) (object : Object) → SpellsObject run object → SpellsUnbounded run object
without_bound run object spelling = record {
  front = spelling.front;
  last = spelling.last;
  parts = spelling.parts;
  not_final = spelling.not_final;
  final = spelling.final;
  name = spelling.name;
  short_name = (subst (AllByRecursion (λ name. length name ≤ 255)) spelling.name spelling.rules.short_name).0;
  name_first = spelling.rules.name_first;
  has_body = spelling.has_body;
  octets = spelling.octets;
}

pub leaves_only_the_bound : LeavesOnlyTheBound
leaves_only_the_bound run object = (
  λ spelling. (without_bound run object spelling, subst (λ (os : List ℕ). length os ≤ 16777215) (sym spelling.octets) spelling.rules.bounded),
  λ both. with_bound run object both.0 both.1,
)
