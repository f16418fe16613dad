-- The source's `resources/sine.rs`, a period of 512 entries and a quarter more, and `sine` of `sine_oscillator.rs`.
use Rattle.std.specs.Prelude.{List, [], ◌∷◌}
use Rattle.std.specs.Prelude.{Float}
use Rattle.std.specs.Float.Ieee.{neg}
use Rattle.words.specs.Binary32.{decimal}
use Rattle.utils.specs.Utils.{interpolate_wrap}

-- LUT_SINE_SIZE, the number of entries of a period.
abbrev pub lut_sine_size : Float
lut_sine_size = decimal 512 0

-- `sine`: a table of a period and a quarter, read at a phase.
abbrev pub sine_of : List Float → Float → Float
sine_of table phase = interpolate_wrap table phase lut_sine_size

-- LUT_SINE.
unfoldable pub lut_sine : List Float
lut_sine =
    decimal 0 9 ∷
    decimal 1227153829 11 ∷
    decimal 2454122852 11 ∷
    decimal 3680722294 11 ∷
    decimal 4906767433 11 ∷
    decimal 6132073630 11 ∷
    decimal 7356456360 11 ∷
    decimal 8579731234 11 ∷
    decimal 9801714033 11 ∷
    decimal 1102222073 10 ∷
    decimal 1224106752 10 ∷
    decimal 1345807085 10 ∷
    decimal 1467304745 10 ∷
    decimal 1588581433 10 ∷
    decimal 1709618888 10 ∷
    decimal 1830398880 10 ∷
    decimal 1950903220 10 ∷
    decimal 2071113762 10 ∷
    decimal 2191012402 10 ∷
    decimal 2310581083 10 ∷
    decimal 2429801799 10 ∷
    decimal 2548656596 10 ∷
    decimal 2667127575 10 ∷
    decimal 2785196894 10 ∷
    decimal 2902846773 10 ∷
    decimal 3020059493 10 ∷
    decimal 3136817404 10 ∷
    decimal 3253102922 10 ∷
    decimal 3368898534 10 ∷
    decimal 3484186802 10 ∷
    decimal 3598950365 10 ∷
    decimal 3713171940 10 ∷
    decimal 3826834324 10 ∷
    decimal 3939920401 10 ∷
    decimal 4052413140 10 ∷
    decimal 4164295601 10 ∷
    decimal 4275550934 10 ∷
    decimal 4386162385 10 ∷
    decimal 4496113297 10 ∷
    decimal 4605387110 10 ∷
    decimal 4713967368 10 ∷
    decimal 4821837721 10 ∷
    decimal 4928981922 10 ∷
    decimal 5035383837 10 ∷
    decimal 5141027442 10 ∷
    decimal 5245896827 10 ∷
    decimal 5349976199 10 ∷
    decimal 5453249884 10 ∷
    decimal 5555702330 10 ∷
    decimal 5657318108 10 ∷
    decimal 5758081914 10 ∷
    decimal 5857978575 10 ∷
    decimal 5956993045 10 ∷
    decimal 6055110414 10 ∷
    decimal 6152315906 10 ∷
    decimal 6248594881 10 ∷
    decimal 6343932842 10 ∷
    decimal 6438315429 10 ∷
    decimal 6531728430 10 ∷
    decimal 6624157776 10 ∷
    decimal 6715589548 10 ∷
    decimal 6806009978 10 ∷
    decimal 6895405447 10 ∷
    decimal 6983762494 10 ∷
    decimal 7071067812 10 ∷
    decimal 7157308253 10 ∷
    decimal 7242470830 10 ∷
    decimal 7326542717 10 ∷
    decimal 7409511254 10 ∷
    decimal 7491363945 10 ∷
    decimal 7572088465 10 ∷
    decimal 7651672656 10 ∷
    decimal 7730104534 10 ∷
    decimal 7807372286 10 ∷
    decimal 7883464276 10 ∷
    decimal 7958369046 10 ∷
    decimal 8032075315 10 ∷
    decimal 8104571983 10 ∷
    decimal 8175848132 10 ∷
    decimal 8245893028 10 ∷
    decimal 8314696123 10 ∷
    decimal 8382247056 10 ∷
    decimal 8448535652 10 ∷
    decimal 8513551931 10 ∷
    decimal 8577286100 10 ∷
    decimal 8639728561 10 ∷
    decimal 8700869911 10 ∷
    decimal 8760700942 10 ∷
    decimal 8819212643 10 ∷
    decimal 8876396204 10 ∷
    decimal 8932243012 10 ∷
    decimal 8986744657 10 ∷
    decimal 9039892931 10 ∷
    decimal 9091679831 10 ∷
    decimal 9142097557 10 ∷
    decimal 9191138517 10 ∷
    decimal 9238795325 10 ∷
    decimal 9285060805 10 ∷
    decimal 9329927988 10 ∷
    decimal 9373390119 10 ∷
    decimal 9415440652 10 ∷
    decimal 9456073254 10 ∷
    decimal 9495281806 10 ∷
    decimal 9533060404 10 ∷
    decimal 9569403357 10 ∷
    decimal 9604305194 10 ∷
    decimal 9637760658 10 ∷
    decimal 9669764710 10 ∷
    decimal 9700312532 10 ∷
    decimal 9729399522 10 ∷
    decimal 9757021300 10 ∷
    decimal 9783173707 10 ∷
    decimal 9807852804 10 ∷
    decimal 9831054874 10 ∷
    decimal 9852776424 10 ∷
    decimal 9873014182 10 ∷
    decimal 9891765100 10 ∷
    decimal 9909026354 10 ∷
    decimal 9924795346 10 ∷
    decimal 9939069700 10 ∷
    decimal 9951847267 10 ∷
    decimal 9963126122 10 ∷
    decimal 9972904567 10 ∷
    decimal 9981181129 10 ∷
    decimal 9987954562 10 ∷
    decimal 9993223846 10 ∷
    decimal 9996988187 10 ∷
    decimal 9999247018 10 ∷
    decimal 1000000000 9 ∷
    decimal 9999247018 10 ∷
    decimal 9996988187 10 ∷
    decimal 9993223846 10 ∷
    decimal 9987954562 10 ∷
    decimal 9981181129 10 ∷
    decimal 9972904567 10 ∷
    decimal 9963126122 10 ∷
    decimal 9951847267 10 ∷
    decimal 9939069700 10 ∷
    decimal 9924795346 10 ∷
    decimal 9909026354 10 ∷
    decimal 9891765100 10 ∷
    decimal 9873014182 10 ∷
    decimal 9852776424 10 ∷
    decimal 9831054874 10 ∷
    decimal 9807852804 10 ∷
    decimal 9783173707 10 ∷
    decimal 9757021300 10 ∷
    decimal 9729399522 10 ∷
    decimal 9700312532 10 ∷
    decimal 9669764710 10 ∷
    decimal 9637760658 10 ∷
    decimal 9604305194 10 ∷
    decimal 9569403357 10 ∷
    decimal 9533060404 10 ∷
    decimal 9495281806 10 ∷
    decimal 9456073254 10 ∷
    decimal 9415440652 10 ∷
    decimal 9373390119 10 ∷
    decimal 9329927988 10 ∷
    decimal 9285060805 10 ∷
    decimal 9238795325 10 ∷
    decimal 9191138517 10 ∷
    decimal 9142097557 10 ∷
    decimal 9091679831 10 ∷
    decimal 9039892931 10 ∷
    decimal 8986744657 10 ∷
    decimal 8932243012 10 ∷
    decimal 8876396204 10 ∷
    decimal 8819212643 10 ∷
    decimal 8760700942 10 ∷
    decimal 8700869911 10 ∷
    decimal 8639728561 10 ∷
    decimal 8577286100 10 ∷
    decimal 8513551931 10 ∷
    decimal 8448535652 10 ∷
    decimal 8382247056 10 ∷
    decimal 8314696123 10 ∷
    decimal 8245893028 10 ∷
    decimal 8175848132 10 ∷
    decimal 8104571983 10 ∷
    decimal 8032075315 10 ∷
    decimal 7958369046 10 ∷
    decimal 7883464276 10 ∷
    decimal 7807372286 10 ∷
    decimal 7730104534 10 ∷
    decimal 7651672656 10 ∷
    decimal 7572088465 10 ∷
    decimal 7491363945 10 ∷
    decimal 7409511254 10 ∷
    decimal 7326542717 10 ∷
    decimal 7242470830 10 ∷
    decimal 7157308253 10 ∷
    decimal 7071067812 10 ∷
    decimal 6983762494 10 ∷
    decimal 6895405447 10 ∷
    decimal 6806009978 10 ∷
    decimal 6715589548 10 ∷
    decimal 6624157776 10 ∷
    decimal 6531728430 10 ∷
    decimal 6438315429 10 ∷
    decimal 6343932842 10 ∷
    decimal 6248594881 10 ∷
    decimal 6152315906 10 ∷
    decimal 6055110414 10 ∷
    decimal 5956993045 10 ∷
    decimal 5857978575 10 ∷
    decimal 5758081914 10 ∷
    decimal 5657318108 10 ∷
    decimal 5555702330 10 ∷
    decimal 5453249884 10 ∷
    decimal 5349976199 10 ∷
    decimal 5245896827 10 ∷
    decimal 5141027442 10 ∷
    decimal 5035383837 10 ∷
    decimal 4928981922 10 ∷
    decimal 4821837721 10 ∷
    decimal 4713967368 10 ∷
    decimal 4605387110 10 ∷
    decimal 4496113297 10 ∷
    decimal 4386162385 10 ∷
    decimal 4275550934 10 ∷
    decimal 4164295601 10 ∷
    decimal 4052413140 10 ∷
    decimal 3939920401 10 ∷
    decimal 3826834324 10 ∷
    decimal 3713171940 10 ∷
    decimal 3598950365 10 ∷
    decimal 3484186802 10 ∷
    decimal 3368898534 10 ∷
    decimal 3253102922 10 ∷
    decimal 3136817404 10 ∷
    decimal 3020059493 10 ∷
    decimal 2902846773 10 ∷
    decimal 2785196894 10 ∷
    decimal 2667127575 10 ∷
    decimal 2548656596 10 ∷
    decimal 2429801799 10 ∷
    decimal 2310581083 10 ∷
    decimal 2191012402 10 ∷
    decimal 2071113762 10 ∷
    decimal 1950903220 10 ∷
    decimal 1830398880 10 ∷
    decimal 1709618888 10 ∷
    decimal 1588581433 10 ∷
    decimal 1467304745 10 ∷
    decimal 1345807085 10 ∷
    decimal 1224106752 10 ∷
    decimal 1102222073 10 ∷
    decimal 9801714033 11 ∷
    decimal 8579731234 11 ∷
    decimal 7356456360 11 ∷
    decimal 6132073630 11 ∷
    decimal 4906767433 11 ∷
    decimal 3680722294 11 ∷
    decimal 2454122852 11 ∷
    decimal 1227153829 11 ∷
    decimal 1224646799 25 ∷
    neg (decimal 1227153829 11) ∷
    neg (decimal 2454122852 11) ∷
    neg (decimal 3680722294 11) ∷
    neg (decimal 4906767433 11) ∷
    neg (decimal 6132073630 11) ∷
    neg (decimal 7356456360 11) ∷
    neg (decimal 8579731234 11) ∷
    neg (decimal 9801714033 11) ∷
    neg (decimal 1102222073 10) ∷
    neg (decimal 1224106752 10) ∷
    neg (decimal 1345807085 10) ∷
    neg (decimal 1467304745 10) ∷
    neg (decimal 1588581433 10) ∷
    neg (decimal 1709618888 10) ∷
    neg (decimal 1830398880 10) ∷
    neg (decimal 1950903220 10) ∷
    neg (decimal 2071113762 10) ∷
    neg (decimal 2191012402 10) ∷
    neg (decimal 2310581083 10) ∷
    neg (decimal 2429801799 10) ∷
    neg (decimal 2548656596 10) ∷
    neg (decimal 2667127575 10) ∷
    neg (decimal 2785196894 10) ∷
    neg (decimal 2902846773 10) ∷
    neg (decimal 3020059493 10) ∷
    neg (decimal 3136817404 10) ∷
    neg (decimal 3253102922 10) ∷
    neg (decimal 3368898534 10) ∷
    neg (decimal 3484186802 10) ∷
    neg (decimal 3598950365 10) ∷
    neg (decimal 3713171940 10) ∷
    neg (decimal 3826834324 10) ∷
    neg (decimal 3939920401 10) ∷
    neg (decimal 4052413140 10) ∷
    neg (decimal 4164295601 10) ∷
    neg (decimal 4275550934 10) ∷
    neg (decimal 4386162385 10) ∷
    neg (decimal 4496113297 10) ∷
    neg (decimal 4605387110 10) ∷
    neg (decimal 4713967368 10) ∷
    neg (decimal 4821837721 10) ∷
    neg (decimal 4928981922 10) ∷
    neg (decimal 5035383837 10) ∷
    neg (decimal 5141027442 10) ∷
    neg (decimal 5245896827 10) ∷
    neg (decimal 5349976199 10) ∷
    neg (decimal 5453249884 10) ∷
    neg (decimal 5555702330 10) ∷
    neg (decimal 5657318108 10) ∷
    neg (decimal 5758081914 10) ∷
    neg (decimal 5857978575 10) ∷
    neg (decimal 5956993045 10) ∷
    neg (decimal 6055110414 10) ∷
    neg (decimal 6152315906 10) ∷
    neg (decimal 6248594881 10) ∷
    neg (decimal 6343932842 10) ∷
    neg (decimal 6438315429 10) ∷
    neg (decimal 6531728430 10) ∷
    neg (decimal 6624157776 10) ∷
    neg (decimal 6715589548 10) ∷
    neg (decimal 6806009978 10) ∷
    neg (decimal 6895405447 10) ∷
    neg (decimal 6983762494 10) ∷
    neg (decimal 7071067812 10) ∷
    neg (decimal 7157308253 10) ∷
    neg (decimal 7242470830 10) ∷
    neg (decimal 7326542717 10) ∷
    neg (decimal 7409511254 10) ∷
    neg (decimal 7491363945 10) ∷
    neg (decimal 7572088465 10) ∷
    neg (decimal 7651672656 10) ∷
    neg (decimal 7730104534 10) ∷
    neg (decimal 7807372286 10) ∷
    neg (decimal 7883464276 10) ∷
    neg (decimal 7958369046 10) ∷
    neg (decimal 8032075315 10) ∷
    neg (decimal 8104571983 10) ∷
    neg (decimal 8175848132 10) ∷
    neg (decimal 8245893028 10) ∷
    neg (decimal 8314696123 10) ∷
    neg (decimal 8382247056 10) ∷
    neg (decimal 8448535652 10) ∷
    neg (decimal 8513551931 10) ∷
    neg (decimal 8577286100 10) ∷
    neg (decimal 8639728561 10) ∷
    neg (decimal 8700869911 10) ∷
    neg (decimal 8760700942 10) ∷
    neg (decimal 8819212643 10) ∷
    neg (decimal 8876396204 10) ∷
    neg (decimal 8932243012 10) ∷
    neg (decimal 8986744657 10) ∷
    neg (decimal 9039892931 10) ∷
    neg (decimal 9091679831 10) ∷
    neg (decimal 9142097557 10) ∷
    neg (decimal 9191138517 10) ∷
    neg (decimal 9238795325 10) ∷
    neg (decimal 9285060805 10) ∷
    neg (decimal 9329927988 10) ∷
    neg (decimal 9373390119 10) ∷
    neg (decimal 9415440652 10) ∷
    neg (decimal 9456073254 10) ∷
    neg (decimal 9495281806 10) ∷
    neg (decimal 9533060404 10) ∷
    neg (decimal 9569403357 10) ∷
    neg (decimal 9604305194 10) ∷
    neg (decimal 9637760658 10) ∷
    neg (decimal 9669764710 10) ∷
    neg (decimal 9700312532 10) ∷
    neg (decimal 9729399522 10) ∷
    neg (decimal 9757021300 10) ∷
    neg (decimal 9783173707 10) ∷
    neg (decimal 9807852804 10) ∷
    neg (decimal 9831054874 10) ∷
    neg (decimal 9852776424 10) ∷
    neg (decimal 9873014182 10) ∷
    neg (decimal 9891765100 10) ∷
    neg (decimal 9909026354 10) ∷
    neg (decimal 9924795346 10) ∷
    neg (decimal 9939069700 10) ∷
    neg (decimal 9951847267 10) ∷
    neg (decimal 9963126122 10) ∷
    neg (decimal 9972904567 10) ∷
    neg (decimal 9981181129 10) ∷
    neg (decimal 9987954562 10) ∷
    neg (decimal 9993223846 10) ∷
    neg (decimal 9996988187 10) ∷
    neg (decimal 9999247018 10) ∷
    neg (decimal 1000000000 9) ∷
    neg (decimal 9999247018 10) ∷
    neg (decimal 9996988187 10) ∷
    neg (decimal 9993223846 10) ∷
    neg (decimal 9987954562 10) ∷
    neg (decimal 9981181129 10) ∷
    neg (decimal 9972904567 10) ∷
    neg (decimal 9963126122 10) ∷
    neg (decimal 9951847267 10) ∷
    neg (decimal 9939069700 10) ∷
    neg (decimal 9924795346 10) ∷
    neg (decimal 9909026354 10) ∷
    neg (decimal 9891765100 10) ∷
    neg (decimal 9873014182 10) ∷
    neg (decimal 9852776424 10) ∷
    neg (decimal 9831054874 10) ∷
    neg (decimal 9807852804 10) ∷
    neg (decimal 9783173707 10) ∷
    neg (decimal 9757021300 10) ∷
    neg (decimal 9729399522 10) ∷
    neg (decimal 9700312532 10) ∷
    neg (decimal 9669764710 10) ∷
    neg (decimal 9637760658 10) ∷
    neg (decimal 9604305194 10) ∷
    neg (decimal 9569403357 10) ∷
    neg (decimal 9533060404 10) ∷
    neg (decimal 9495281806 10) ∷
    neg (decimal 9456073254 10) ∷
    neg (decimal 9415440652 10) ∷
    neg (decimal 9373390119 10) ∷
    neg (decimal 9329927988 10) ∷
    neg (decimal 9285060805 10) ∷
    neg (decimal 9238795325 10) ∷
    neg (decimal 9191138517 10) ∷
    neg (decimal 9142097557 10) ∷
    neg (decimal 9091679831 10) ∷
    neg (decimal 9039892931 10) ∷
    neg (decimal 8986744657 10) ∷
    neg (decimal 8932243012 10) ∷
    neg (decimal 8876396204 10) ∷
    neg (decimal 8819212643 10) ∷
    neg (decimal 8760700942 10) ∷
    neg (decimal 8700869911 10) ∷
    neg (decimal 8639728561 10) ∷
    neg (decimal 8577286100 10) ∷
    neg (decimal 8513551931 10) ∷
    neg (decimal 8448535652 10) ∷
    neg (decimal 8382247056 10) ∷
    neg (decimal 8314696123 10) ∷
    neg (decimal 8245893028 10) ∷
    neg (decimal 8175848132 10) ∷
    neg (decimal 8104571983 10) ∷
    neg (decimal 8032075315 10) ∷
    neg (decimal 7958369046 10) ∷
    neg (decimal 7883464276 10) ∷
    neg (decimal 7807372286 10) ∷
    neg (decimal 7730104534 10) ∷
    neg (decimal 7651672656 10) ∷
    neg (decimal 7572088465 10) ∷
    neg (decimal 7491363945 10) ∷
    neg (decimal 7409511254 10) ∷
    neg (decimal 7326542717 10) ∷
    neg (decimal 7242470830 10) ∷
    neg (decimal 7157308253 10) ∷
    neg (decimal 7071067812 10) ∷
    neg (decimal 6983762494 10) ∷
    neg (decimal 6895405447 10) ∷
    neg (decimal 6806009978 10) ∷
    neg (decimal 6715589548 10) ∷
    neg (decimal 6624157776 10) ∷
    neg (decimal 6531728430 10) ∷
    neg (decimal 6438315429 10) ∷
    neg (decimal 6343932842 10) ∷
    neg (decimal 6248594881 10) ∷
    neg (decimal 6152315906 10) ∷
    neg (decimal 6055110414 10) ∷
    neg (decimal 5956993045 10) ∷
    neg (decimal 5857978575 10) ∷
    neg (decimal 5758081914 10) ∷
    neg (decimal 5657318108 10) ∷
    neg (decimal 5555702330 10) ∷
    neg (decimal 5453249884 10) ∷
    neg (decimal 5349976199 10) ∷
    neg (decimal 5245896827 10) ∷
    neg (decimal 5141027442 10) ∷
    neg (decimal 5035383837 10) ∷
    neg (decimal 4928981922 10) ∷
    neg (decimal 4821837721 10) ∷
    neg (decimal 4713967368 10) ∷
    neg (decimal 4605387110 10) ∷
    neg (decimal 4496113297 10) ∷
    neg (decimal 4386162385 10) ∷
    neg (decimal 4275550934 10) ∷
    neg (decimal 4164295601 10) ∷
    neg (decimal 4052413140 10) ∷
    neg (decimal 3939920401 10) ∷
    neg (decimal 3826834324 10) ∷
    neg (decimal 3713171940 10) ∷
    neg (decimal 3598950365 10) ∷
    neg (decimal 3484186802 10) ∷
    neg (decimal 3368898534 10) ∷
    neg (decimal 3253102922 10) ∷
    neg (decimal 3136817404 10) ∷
    neg (decimal 3020059493 10) ∷
    neg (decimal 2902846773 10) ∷
    neg (decimal 2785196894 10) ∷
    neg (decimal 2667127575 10) ∷
    neg (decimal 2548656596 10) ∷
    neg (decimal 2429801799 10) ∷
    neg (decimal 2310581083 10) ∷
    neg (decimal 2191012402 10) ∷
    neg (decimal 2071113762 10) ∷
    neg (decimal 1950903220 10) ∷
    neg (decimal 1830398880 10) ∷
    neg (decimal 1709618888 10) ∷
    neg (decimal 1588581433 10) ∷
    neg (decimal 1467304745 10) ∷
    neg (decimal 1345807085 10) ∷
    neg (decimal 1224106752 10) ∷
    neg (decimal 1102222073 10) ∷
    neg (decimal 9801714033 11) ∷
    neg (decimal 8579731234 11) ∷
    neg (decimal 7356456360 11) ∷
    neg (decimal 6132073630 11) ∷
    neg (decimal 4906767433 11) ∷
    neg (decimal 3680722294 11) ∷
    neg (decimal 2454122852 11) ∷
    neg (decimal 1227153829 11) ∷
    neg (decimal 2449293598 25) ∷
    decimal 1227153829 11 ∷
    decimal 2454122852 11 ∷
    decimal 3680722294 11 ∷
    decimal 4906767433 11 ∷
    decimal 6132073630 11 ∷
    decimal 7356456360 11 ∷
    decimal 8579731234 11 ∷
    decimal 9801714033 11 ∷
    decimal 1102222073 10 ∷
    decimal 1224106752 10 ∷
    decimal 1345807085 10 ∷
    decimal 1467304745 10 ∷
    decimal 1588581433 10 ∷
    decimal 1709618888 10 ∷
    decimal 1830398880 10 ∷
    decimal 1950903220 10 ∷
    decimal 2071113762 10 ∷
    decimal 2191012402 10 ∷
    decimal 2310581083 10 ∷
    decimal 2429801799 10 ∷
    decimal 2548656596 10 ∷
    decimal 2667127575 10 ∷
    decimal 2785196894 10 ∷
    decimal 2902846773 10 ∷
    decimal 3020059493 10 ∷
    decimal 3136817404 10 ∷
    decimal 3253102922 10 ∷
    decimal 3368898534 10 ∷
    decimal 3484186802 10 ∷
    decimal 3598950365 10 ∷
    decimal 3713171940 10 ∷
    decimal 3826834324 10 ∷
    decimal 3939920401 10 ∷
    decimal 4052413140 10 ∷
    decimal 4164295601 10 ∷
    decimal 4275550934 10 ∷
    decimal 4386162385 10 ∷
    decimal 4496113297 10 ∷
    decimal 4605387110 10 ∷
    decimal 4713967368 10 ∷
    decimal 4821837721 10 ∷
    decimal 4928981922 10 ∷
    decimal 5035383837 10 ∷
    decimal 5141027442 10 ∷
    decimal 5245896827 10 ∷
    decimal 5349976199 10 ∷
    decimal 5453249884 10 ∷
    decimal 5555702330 10 ∷
    decimal 5657318108 10 ∷
    decimal 5758081914 10 ∷
    decimal 5857978575 10 ∷
    decimal 5956993045 10 ∷
    decimal 6055110414 10 ∷
    decimal 6152315906 10 ∷
    decimal 6248594881 10 ∷
    decimal 6343932842 10 ∷
    decimal 6438315429 10 ∷
    decimal 6531728430 10 ∷
    decimal 6624157776 10 ∷
    decimal 6715589548 10 ∷
    decimal 6806009978 10 ∷
    decimal 6895405447 10 ∷
    decimal 6983762494 10 ∷
    decimal 7071067812 10 ∷
    decimal 7157308253 10 ∷
    decimal 7242470830 10 ∷
    decimal 7326542717 10 ∷
    decimal 7409511254 10 ∷
    decimal 7491363945 10 ∷
    decimal 7572088465 10 ∷
    decimal 7651672656 10 ∷
    decimal 7730104534 10 ∷
    decimal 7807372286 10 ∷
    decimal 7883464276 10 ∷
    decimal 7958369046 10 ∷
    decimal 8032075315 10 ∷
    decimal 8104571983 10 ∷
    decimal 8175848132 10 ∷
    decimal 8245893028 10 ∷
    decimal 8314696123 10 ∷
    decimal 8382247056 10 ∷
    decimal 8448535652 10 ∷
    decimal 8513551931 10 ∷
    decimal 8577286100 10 ∷
    decimal 8639728561 10 ∷
    decimal 8700869911 10 ∷
    decimal 8760700942 10 ∷
    decimal 8819212643 10 ∷
    decimal 8876396204 10 ∷
    decimal 8932243012 10 ∷
    decimal 8986744657 10 ∷
    decimal 9039892931 10 ∷
    decimal 9091679831 10 ∷
    decimal 9142097557 10 ∷
    decimal 9191138517 10 ∷
    decimal 9238795325 10 ∷
    decimal 9285060805 10 ∷
    decimal 9329927988 10 ∷
    decimal 9373390119 10 ∷
    decimal 9415440652 10 ∷
    decimal 9456073254 10 ∷
    decimal 9495281806 10 ∷
    decimal 9533060404 10 ∷
    decimal 9569403357 10 ∷
    decimal 9604305194 10 ∷
    decimal 9637760658 10 ∷
    decimal 9669764710 10 ∷
    decimal 9700312532 10 ∷
    decimal 9729399522 10 ∷
    decimal 9757021300 10 ∷
    decimal 9783173707 10 ∷
    decimal 9807852804 10 ∷
    decimal 9831054874 10 ∷
    decimal 9852776424 10 ∷
    decimal 9873014182 10 ∷
    decimal 9891765100 10 ∷
    decimal 9909026354 10 ∷
    decimal 9924795346 10 ∷
    decimal 9939069700 10 ∷
    decimal 9951847267 10 ∷
    decimal 9963126122 10 ∷
    decimal 9972904567 10 ∷
    decimal 9981181129 10 ∷
    decimal 9987954562 10 ∷
    decimal 9993223846 10 ∷
    decimal 9996988187 10 ∷
    decimal 9999247018 10 ∷
    decimal 1000000000 9 ∷
    []
