-- The first place of a new object, in the tables: a direct one under an owner, else one of a proxy.
use Rattle.std.proofs.Common.{◌≡◌, ℕ, Bool, true, false, cond, ◌+◌, ◌<◌, ◌≤◌, List, length, refl, sym, ap, subst, ◌∙◌}
use Rattle.com_proxy.specs.Rows.{changed_row, gaining}
use Rattle.com_stub.specs.StubRows.{is_connected}
use Rattle.com_stub.specs.CounterRows.{has_counter, changed_counter, more}
use Rattle.com_stub.specs.declared.counters.CounterRow.{CounterRow}
use Rattle.com_refs_books.specs.Changes.{changed, change, Makes}
use Rattle.com_refs_holders.specs.declared.ObjectRow.{ObjectRow}
use Rattle.com_refs_holders.specs.Tables.{Tables, books_of, owns_of, owners_of, direct_more}
use Rattle.com_refs_holders.specs.Places.{OneMore}
use Rattle.com_refs_holders.specs.Stands.{IsHolders}
use Rattle.com_refs_holders.proofs.Choices.{makes_here, makes_new}
use Rattle.com_refs_holders.proofs.Counters.{has_more}
use Rattle.com_refs_holders.proofs.Issues.{Direct, Issued, kept_books, kept_stands, kept_places, more_owners, more_length, issued_books, issued_stands, issued_places}

pub record Placed (m u : Tables) (a o i : ℕ) : Type 0 where
  pub objects : u.objects ≡ cond (owns_of m.objects o a) (direct_more o m.objects) m.objects
  pub stubs : u.stubs ≡ m.stubs
  pub counters : u.counters ≡ cond (owns_of m.objects o a) m.counters (changed_counter (more 5) o i m.counters)
  pub proxies : u.proxies ≡ cond (owns_of m.objects o a) m.proxies (changed_row (gaining 5) a o i m.proxies)
  pub packets : u.packets ≡ m.packets
  pub cookies : u.cookies ≡ m.cookies
  pub issued : u.issued ≡ m.issued + 1

pub placed_length : (b : Bool) (o : ℕ) (rows : List ObjectRow) → length (cond b (direct_more o rows) rows) ≡ length rows
placed_length true o rows = more_length o rows
placed_length false o rows = refl

module _ (m u : Tables) (a o i : ℕ) (p : Placed m u a o i) where
  is_direct : owns_of m.objects o a ≡ true → Direct m u o
  is_direct own = record {
    objects = p.objects ∙ ap (λ (b : Bool). cond b (direct_more o m.objects) m.objects) own;
    stubs = p.stubs;
    counters = p.counters ∙ ap (λ (b : Bool). cond b m.counters (changed_counter (more 5) o i m.counters)) own;
    proxies = p.proxies ∙ ap (λ (b : Bool). cond b m.proxies (changed_row (gaining 5) a o i m.proxies)) own;
    packets = p.packets;
    cookies = p.cookies;
    issued = p.issued;
  }

  is_issued : owns_of m.objects o a ≡ false → Issued m u a o i
  is_issued own = record {
    objects = p.objects ∙ ap (λ (b : Bool). cond b (direct_more o m.objects) m.objects) own;
    stubs = p.stubs;
    counters = p.counters ∙ ap (λ (b : Bool). cond b m.counters (changed_counter (more 5) o i m.counters)) own;
    proxies = p.proxies ∙ ap (λ (b : Bool). cond b m.proxies (changed_row (gaining 5) a o i m.proxies)) own;
    packets = p.packets;
    cookies = p.cookies;
    issued = p.issued;
  }

  pub placed_owners : owners_of u.objects ≡ owners_of m.objects
  placed_owners = elim (owns_of m.objects o a) as (λ b. owns_of m.objects o a ≡ b → owners_of u.objects ≡ owners_of m.objects) [
    | true ↦ λ own. ap (λ (rows : List ObjectRow). owners_of rows) (is_direct own).objects ∙ more_owners m.objects o
    | false ↦ λ own. ap (λ (rows : List ObjectRow). owners_of rows) (is_issued own).objects
  ] refl

  pub placed_offers : (x j : ℕ) → has_counter u.counters x j ≡ has_counter m.counters x j
  placed_offers x j = elim (owns_of m.objects o a) as (λ b. owns_of m.objects o a ≡ b → has_counter u.counters x j ≡ has_counter m.counters x j) [
    | true ↦ λ own. ap (λ (cs : List CounterRow). has_counter cs x j) (is_direct own).counters
    | false ↦ λ own. ap (λ (cs : List CounterRow). has_counter cs x j) (is_issued own).counters ∙ has_more m.counters o i 5 x j
  ] refl

  module _ (live : is_connected m.stubs o ≡ true) (known : has_counter m.counters o i ≡ true) (some : 0 < o) (made : o ≤ length m.objects) where
    pub placed_stands : IsHolders m → IsHolders u
    placed_stands s = elim (owns_of m.objects o a) as (λ b. owns_of m.objects o a ≡ b → IsHolders u) [
      | true ↦ λ own. kept_stands m u o (is_direct own) some made s
      | false ↦ λ own. issued_stands m u a o i (is_issued own) live known own s
    ] refl

    pub placed_row : books_of u ≡ changed (books_of m) (change (owns_of m.objects) (books_of m) (Makes a o i))
    placed_row = elim (owns_of m.objects o a) as (λ b. owns_of m.objects o a ≡ b → books_of u ≡ changed (books_of m) (change (owns_of m.objects) (books_of m) (Makes a o i))) [
      | true ↦ λ own. kept_books m u o (is_direct own) some made ∙ sym (makes_here (owns_of m.objects) (books_of m) a o i own)
      | false ↦ λ own. issued_books m u a o i (is_issued own) live known ∙ sym (makes_new (owns_of m.objects) (books_of m) a o i own)
    ] refl

    pub placed_places : OneMore m u a o (owns_of m.objects o a)
    placed_places = elim (owns_of m.objects o a) as (λ b. owns_of m.objects o a ≡ b → OneMore m u a o (owns_of m.objects o a)) [
      | true ↦ λ own. subst (λ (w : Bool). OneMore m u a o w) (sym own) (kept_places m u o (is_direct own) some made a)
      | false ↦ λ own. subst (λ (w : Bool). OneMore m u a o w) (sym own) (issued_places m u a o i (is_issued own))
    ] refl
