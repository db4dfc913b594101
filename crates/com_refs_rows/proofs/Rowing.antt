-- Rows of what is not connected.
use Rattle.std.proofs.Common.{◌≡◌, ℕ, Bool, true, false, cond, sym, ap, ◌∙◌}
use Rattle.com_base.specs.declared.value.MarshalMode.{MarshalMode}
use Rattle.com_stub.specs.StubRows.{is_connected}
use Rattle.com_refs_books.specs.Changes.{changed, marshal_change, Same, ToCookie, Marshals, Registers}
use Rattle.com_refs_holders.specs.Tables.{Tables, books_of, owns_of}
use Rattle.com_refs_rows.specs.Books.{Rowed}

live_is : (t : Tables) (o : ℕ) (b : Bool) → is_connected t.stubs o ≡ b → (books_of t).live o ≡ b
unfolding books_of
live_is t o b h = h

pub no_packet_made : (t u : Tables) (a o i : ℕ) (m : MarshalMode) → is_connected t.stubs o ≡ false → u ≡ t → Rowed t u (Marshals a m o i)
no_packet_made t u a o i m h e =
    ap (λ (v : Tables). books_of v) e
    ∙ sym (ap (λ (w : Bool). changed (books_of t) (cond w (marshal_change m (owns_of t.objects o a) ((books_of t).proxy a o i) a o i) Same)) (live_is t o false h))

pub no_cookie_made : (t u : Tables) (o i : ℕ) → is_connected t.stubs o ≡ false → u ≡ t → Rowed t u (Registers o i)
no_cookie_made t u o i h e =
    ap (λ (v : Tables). books_of v) e
    ∙ sym (ap (λ (w : Bool). changed (books_of t) (cond w (ToCookie o i 1) Same)) (live_is t o false h))

pub cookie_made : (t u : Tables) (o i : ℕ) → is_connected t.stubs o ≡ true → books_of u ≡ changed (books_of t) (ToCookie o i 1) → Rowed t u (Registers o i)
cookie_made t u o i h e = e ∙ sym (ap (λ (w : Bool). changed (books_of t) (cond w (ToCookie o i 1) Same)) (live_is t o true h))
