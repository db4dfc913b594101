-- A line, from its end.
use Rattle.std.proofs.Common.{◌≡◌, ℕ, List, [], ◌++◌, ap, sym, ◌∙◌, append_assoc}
use Rattle.std.specs.Prelude.{codes, decimal}
use Rattle.com_model.specs.declared.deeds.Deed.{Deed}
use Rattle.com_model.specs.declared.deeds.Deed.TheVariants as deed
use Rattle.com_model.specs.Text.{deed_line}

-- what was done, behind a front
line_in_front : (version : ℕ) (front behind : List ℕ) (d : Deed) → front ++ (deed_line version [] d ++ behind) ≡ deed_line version front d ++ behind
line_in_front version front behind (deed.Init m home hr) = simp append_assoc
line_in_front version front behind (deed.Uninit home count) = simp append_assoc
line_in_front version front behind (deed.Made object apartment class iface hr) = simp append_assoc
line_in_front version front behind (deed.Query object iface hr) = simp append_assoc
line_in_front version front behind (deed.Copy held) = simp append_assoc
line_in_front version front behind (deed.Release held) = simp append_assoc
line_in_front version front behind (deed.Marshal packet m held refs hr bytes) = simp append_assoc
line_in_front version front behind (deed.Unmarshal packet held refs hr) = simp append_assoc
line_in_front version front behind (deed.DropPacket packet hr) = simp append_assoc
line_in_front version front behind (deed.Raw buffer count) = simp append_assoc
line_in_front version front behind (deed.Register cookie held hr) = simp append_assoc
line_in_front version front behind (deed.Get cookie held refs hr) = simp append_assoc
line_in_front version front behind (deed.Revoke cookie hr) = simp append_assoc
line_in_front version front behind (deed.SetFilter filter hr) = simp append_assoc
line_in_front version front behind (deed.Post lane word hr) = simp append_assoc
line_in_front version front behind (deed.Quit lane hr) = simp append_assoc
line_in_front version front behind (deed.Pump bound) = simp append_assoc
line_in_front version front behind deed.EndPump = simp append_assoc
line_in_front version front behind (deed.Word word) = simp append_assoc
line_in_front version front behind (deed.Out call object iface method r cause bytes) = simp append_assoc
line_in_front version front behind (deed.Verdict call call_type v) = simp append_assoc
line_in_front version front behind (deed.Refuse call hr) = simp append_assoc
line_in_front version front behind (deed.Enter call object apartment call_type values) = simp append_assoc
line_in_front version front behind (deed.Leave call hr v bytes) = simp append_assoc
line_in_front version front behind (deed.Retry call answer) = simp append_assoc
line_in_front version front behind (deed.Again call) = simp append_assoc
line_in_front version front behind (deed.Back call hr v) = simp append_assoc
line_in_front version front behind (deed.Pending call word answer) = simp append_assoc
line_in_front version front behind (deed.Disconnect object hr) = simp append_assoc
line_in_front version front behind (deed.Final object) = simp append_assoc
line_in_front version front behind (deed.Tick clock) = simp append_assoc
line_in_front version front behind deed.End = simp append_assoc

-- a line whose parts were written from the last to the first: its end, what was done, the lane, and the place
pub line_whole : (version place lane : ℕ) (d : Deed) (whole lane_on deed_on end_on past : List ℕ)
    → whole ≡ decimal place ++ lane_on → lane_on ≡ codes " L" ++ decimal lane ++ deed_on
    → deed_on ≡ deed_line version [] d ++ end_on → end_on ≡ codes "\n" ++ past → past ≡ []
    → whole ≡ deed_line version (decimal place ++ codes " L" ++ decimal lane) d ++ codes "\n"
line_whole version place lane d whole lane_on deed_on end_on past w l o e none =
    let end = codes "\n" in
    let done = deed_line version [] d ++ end in
    w
    ∙ ap (λ t. decimal place ++ t) (l ∙ ap (λ t. codes " L" ++ decimal lane ++ t) (o ∙ ap (λ t. deed_line version [] d ++ t) (e ∙ ap (λ t. end ++ t) none)))
    ∙ sym (append_assoc (decimal place) (codes " L" ++ decimal lane) done)
    ∙ ap (λ t. t ++ done) (sym (append_assoc (decimal place) (codes " L") (decimal lane)))
    ∙ line_in_front version (decimal place ++ codes " L" ++ decimal lane) end d
