-- The elements of a picture, as SVG spells them.
use Rattle.std.specs.Prelude.{ℕ, List, ◌++◌, decimal, ◌/◌, ◌%◌, codes, flat_map}
use Rattle.picture.specs.Escaped.{escaped}
use Rattle.picture.specs.declared.canvas.Place.{Place}

-- so many hundredths, as 12.05
abbrev pub hundredths : ℕ → List ℕ
hundredths n = decimal (n / 100) ++ codes "." ++ decimal (n / 10 % 10) ++ decimal (n % 10)

-- ---- how an element begins, and what it has
abbrev pub begun : List ℕ → List ℕ → List ℕ
begun element class = element ++ codes " class=\"" ++ escaped class ++ codes "\""

-- a number, behind its name
abbrev pub measure : List ℕ → ℕ → List ℕ
measure name n = name ++ hundredths n ++ codes "\""

abbrev pub ends : Place → Place → List ℕ
ends from to = measure (codes " x1=\"") from.x ++ measure (codes " y1=\"") from.y ++ measure (codes " x2=\"") to.x ++ measure (codes " y2=\"") to.y

abbrev pub point : Place → List ℕ
point p = hundredths p.x ++ codes "," ++ hundredths p.y ++ codes " "

-- ---- the elements, each a line
abbrev pub line_text : List ℕ → Place → Place → List ℕ
line_text class from to = begun (codes "<line") class ++ ends from to ++ codes "/>\n"

-- the head is drawn where the mark of this name is defined
abbrev pub arrow_text : List ℕ → Place → Place → List ℕ
arrow_text class from to = begun (codes "<line") class ++ ends from to ++ codes " marker-end=\"url(#head)\"/>\n"

abbrev pub way_text : List ℕ → List Place → List ℕ
way_text class places = begun (codes "<polyline") class ++ codes " points=\"" ++ flat_map point places ++ codes "\"/>\n"

abbrev pub circle_text : List ℕ → Place → ℕ → List ℕ
circle_text class center radius = begun (codes "<circle") class ++ measure (codes " cx=\"") center.x ++ measure (codes " cy=\"") center.y
    ++ measure (codes " r=\"") radius ++ codes "/>\n"

abbrev pub rectangle_text : List ℕ → Place → ℕ → ℕ → List ℕ
rectangle_text class corner width height = begun (codes "<rect") class ++ measure (codes " x=\"") corner.x ++ measure (codes " y=\"") corner.y
    ++ measure (codes " width=\"") width ++ measure (codes " height=\"") height ++ codes "/>\n"

abbrev pub words_begun : List ℕ → Place → List ℕ
words_begun class at = begun (codes "<text") class ++ measure (codes " x=\"") at.x ++ measure (codes " y=\"") at.y ++ codes ">"

abbrev pub words_text : List ℕ → Place → List ℕ → List ℕ
words_text class at text = words_begun class at ++ escaped text ++ codes "</text>\n"

-- ---- groups, and the picture round all
abbrev pub opened : List ℕ → List ℕ → List ℕ
opened class title = begun (codes "<g") class ++ codes "><title>" ++ escaped title ++ codes "</title>\n"

abbrev pub closed : List ℕ
closed = codes "</g>\n"

-- the head of an arrow, in the colour of its line
abbrev pub head : List ℕ
head = codes "<defs><marker id=\"head\" viewBox=\"0 0 8 8\" refX=\"7\" refY=\"4\" markerWidth=\"7\" markerHeight=\"7\" markerUnits=\"userSpaceOnUse\" orient=\"auto\"><path d=\"M0 0.8L8 4L0 7.2z\" fill=\"context-stroke\"/></marker></defs>\n"

-- a number of whole units, behind its name
abbrev pub units : List ℕ → ℕ → List ℕ
units name n = name ++ decimal n

-- how wide and how high it is
abbrev pub sized : ℕ → ℕ → List ℕ
sized width height = units (codes "<svg xmlns=\"http://www.w3.org/2000/svg\" viewBox=\"0 0 ") width ++ units (codes " ") height
    ++ units (codes "\" width=\"") width ++ units (codes "\" height=\"") height ++ codes "\">\n<style>"

-- and the style sheet of its classes
abbrev pub picture_begun : ℕ → ℕ → List ℕ → List ℕ
picture_begun width height style = sized width height ++ escaped style ++ codes "</style>\n" ++ head

abbrev pub picture_ended : List ℕ
picture_ended = codes "</svg>\n"
