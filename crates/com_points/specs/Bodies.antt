-- The lines of the language that declare the interface of a source, and those of a source's bodies.
--
-- A source keeps up to four sinks: link 0 to 3 is a sink, the cell of the same number is its cookie, 0 where
-- there is none, and cell 4 is the cookie that was given last.
use Rattle.std.specs.Prelude.{ℕ, List, ◌++◌, codes}

abbrev pub point_text : List ℕ
point_text =
    codes "interface IPoint {5C0B0030-0000-4000-8000-000000000001}\n"
    ++ codes "method advise ICounter -> int\nmethod unadvise int\nmethod fire int -> int\n"

-- Null is refused, then the first free place of the four is taken, under a cookie one more than the last.
unfoldable pub advise_text : List ℕ
advise_text =
    codes "body IPoint.advise\nsame r1 s0 s7\nskipz r1 1\nleave E_POINTER\nload r2 c4\nadd r2 1\n"
    ++ codes "load r1 c0\nskipz r1 1\nskip 4\nstore c0 r2\nstore c4 r2\ncopy k0 s0\nleave S_OK r2\n"
    ++ codes "load r1 c1\nskipz r1 1\nskip 4\nstore c1 r2\nstore c4 r2\ncopy k1 s0\nleave S_OK r2\n"
    ++ codes "load r1 c2\nskipz r1 1\nskip 4\nstore c2 r2\nstore c4 r2\ncopy k2 s0\nleave S_OK r2\n"
    ++ codes "load r1 c3\nskipz r1 1\nskip 4\nstore c3 r2\nstore c4 r2\ncopy k3 s0\nleave S_OK r2\n"
    ++ codes "leave 0x80040201\nend\n"

-- Where a place has the cookie, all behind it move one place down, and the last place is free.
unfoldable pub unadvise_text : List ℕ
unadvise_text =
    codes "body IPoint.unadvise\nless r1 0 r0\nskipz r1 1\nskip 1\nleave 0x80040200\n"
    ++ codes "set r1 r0\nload r2 c0\nsub r1 r2\nskipz r1 13\n"
    ++ codes "set r1 r0\nload r2 c1\nsub r1 r2\nskipz r1 12\n"
    ++ codes "set r1 r0\nload r2 c2\nsub r1 r2\nskipz r1 11\n"
    ++ codes "set r1 r0\nload r2 c3\nsub r1 r2\nskipz r1 10\n"
    ++ codes "leave 0x80040200\n"
    ++ codes "load r3 c1\nstore c0 r3\ncopy k0 k1\n"
    ++ codes "load r3 c2\nstore c1 r3\ncopy k1 k2\n"
    ++ codes "load r3 c3\nstore c2 r3\ncopy k2 k3\n"
    ++ codes "store c3 0\nrelease k3\nleave S_OK\nend\n"

-- One event: to the first sink whose cookie is above the one that was reached, and at most the last one when
-- the event began.
unfoldable pub round_text : List ℕ
round_text =
    codes "load r1 c0\nless r2 r5 r1\nskipz r2 2\ncopy s0 k0\nskip 16\n"
    ++ codes "load r1 c1\nless r2 r5 r1\nskipz r2 2\ncopy s0 k1\nskip 11\n"
    ++ codes "load r1 c2\nless r2 r5 r1\nskipz r2 2\ncopy s0 k2\nskip 6\n"
    ++ codes "load r1 c3\nless r2 r5 r1\nskipz r2 2\ncopy s0 k3\nskip 1\n"
    ++ codes "leave S_OK r6\nless r2 r4 r1\nskipz r2 1\nleave S_OK r6\n"
    ++ codes "set r5 r1\nadd r6 1\ncall s0 ICounter.add r0 -> r7\n"

unfoldable pub fire_text : List ℕ
fire_text =
    codes "body IPoint.fire\nload r4 c4\nset r5 0\nset r6 0\n"
    ++ round_text ++ round_text ++ round_text ++ round_text
    ++ codes "leave S_OK r6\nend\n"

-- What stands behind the name, the CLSID and the model of a source.
unfoldable pub rest_text : List ℕ
rest_text = codes " IPoint\n" ++ advise_text ++ unadvise_text ++ fire_text ++ codes "end\n"
