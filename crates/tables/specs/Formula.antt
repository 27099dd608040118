-- The tables that G.729 gives by formula, as stored numbers. specs/Rules.antt says, entry by entry, what makes them right.
use Rattle.std.specs.Prelude.{List, [], ◌∷◌, ◌*◌, ℤ, pos, negsuc, neg_ℤ, replicate}

-- cos (i π / 64) for i from 0 to 63, Q15, to the nearest; 1.0 saturates to 32767 (clauses 3.2.6 and 4.1.1)
unfoldable pub lsp_cosine : List ℤ
lsp_cosine =
    pos 32767 ∷ pos 32729 ∷ pos 32610 ∷ pos 32413 ∷ pos 32138 ∷ pos 31786 ∷ pos 31357 ∷ pos 30853 ∷ pos 30274 ∷ pos 29622 ∷ pos 28899 ∷ pos 28106 ∷
    pos 27246 ∷ pos 26320 ∷ pos 25330 ∷ pos 24279 ∷ pos 23170 ∷ pos 22006 ∷ pos 20788 ∷ pos 19520 ∷ pos 18205 ∷ pos 16846 ∷ pos 15447 ∷ pos 14010 ∷
    pos 12540 ∷ pos 11039 ∷ pos 9512 ∷ pos 7962 ∷ pos 6393 ∷ pos 4808 ∷ pos 3212 ∷ pos 1608 ∷ pos 0 ∷ negsuc 1607 ∷ negsuc 3211 ∷ negsuc 4807 ∷
    negsuc 6392 ∷ negsuc 7961 ∷ negsuc 9511 ∷ negsuc 11038 ∷ negsuc 12539 ∷ negsuc 14009 ∷ negsuc 15446 ∷ negsuc 16845 ∷ negsuc 18204 ∷ negsuc 19519 ∷
    negsuc 20787 ∷ negsuc 22005 ∷ negsuc 23169 ∷ negsuc 24278 ∷ negsuc 25329 ∷ negsuc 26319 ∷ negsuc 27245 ∷ negsuc 28105 ∷ negsuc 28898 ∷
    negsuc 29621 ∷ negsuc 30273 ∷ negsuc 30852 ∷ negsuc 31356 ∷ negsuc 31785 ∷ negsuc 32137 ∷ negsuc 32412 ∷ negsuc 32609 ∷ negsuc 32728 ∷ []

-- the slope from each of these points to the next: cos ((i + 1) π / 64) - cos (i π / 64), Q19, to the nearest
unfoldable pub lsp_cosine_slope : List ℤ
lsp_cosine_slope =
    negsuc 631 ∷ negsuc 1892 ∷ negsuc 3149 ∷ negsuc 4398 ∷ negsuc 5637 ∷ negsuc 6862 ∷ negsuc 8071 ∷ negsuc 9260 ∷ negsuc 10427 ∷ negsuc 11569 ∷
    negsuc 12683 ∷ negsuc 13766 ∷ negsuc 14816 ∷ negsuc 15831 ∷ negsuc 16807 ∷ negsuc 17743 ∷ negsuc 18636 ∷ negsuc 19485 ∷ negsuc 20286 ∷
    negsuc 21038 ∷ negsuc 21740 ∷ negsuc 22389 ∷ negsuc 22985 ∷ negsuc 23525 ∷ negsuc 24008 ∷ negsuc 24434 ∷ negsuc 24800 ∷ negsuc 25107 ∷
    negsuc 25353 ∷ negsuc 25539 ∷ negsuc 25663 ∷ negsuc 25725 ∷ negsuc 25725 ∷ negsuc 25663 ∷ negsuc 25539 ∷ negsuc 25353 ∷ negsuc 25107 ∷
    negsuc 24800 ∷ negsuc 24434 ∷ negsuc 24008 ∷ negsuc 23525 ∷ negsuc 22985 ∷ negsuc 22389 ∷ negsuc 21740 ∷ negsuc 21038 ∷ negsuc 20286 ∷
    negsuc 19485 ∷ negsuc 18636 ∷ negsuc 17743 ∷ negsuc 16807 ∷ negsuc 15831 ∷ negsuc 14816 ∷ negsuc 13766 ∷ negsuc 12683 ∷ negsuc 11569 ∷
    negsuc 10427 ∷ negsuc 9260 ∷ negsuc 8071 ∷ negsuc 6862 ∷ negsuc 5637 ∷ negsuc 4398 ∷ negsuc 3149 ∷ negsuc 1892 ∷ negsuc 631 ∷ []

-- 2 ^ (i / 32) for i from 0 to 32, Q14, to the nearest; 2 is 32767 (clause 3.9.1, equation (71))
unfoldable pub pow2 : List ℤ
pow2 =
    pos 16384 ∷ pos 16743 ∷ pos 17109 ∷ pos 17484 ∷ pos 17867 ∷ pos 18258 ∷ pos 18658 ∷ pos 19066 ∷ pos 19484 ∷ pos 19911 ∷ pos 20347 ∷ pos 20792 ∷
    pos 21247 ∷ pos 21713 ∷ pos 22188 ∷ pos 22674 ∷ pos 23170 ∷ pos 23678 ∷ pos 24196 ∷ pos 24726 ∷ pos 25268 ∷ pos 25821 ∷ pos 26386 ∷ pos 26964 ∷
    pos 27554 ∷ pos 28158 ∷ pos 28774 ∷ pos 29405 ∷ pos 30048 ∷ pos 30706 ∷ pos 31379 ∷ pos 32066 ∷ pos 32767 ∷ []

-- b1 to b4 of equation (69), 0.68, 0.58, 0.34 and 0.19, Q13, to the nearest
unfoldable pub gain_prediction_coefficients : List ℤ
gain_prediction_coefficients =
    pos 5571 ∷ pos 4751 ∷ pos 2785 ∷ pos 1556 ∷ []

-- i π / 11 for i from 1 to 10, Q13, truncated (clause 3.2.4, Table 9)
unfoldable pub lsp_quantizer_initial_memory : List ℤ
lsp_quantizer_initial_memory =
    pos 2339 ∷ pos 4679 ∷ pos 7018 ∷ pos 9358 ∷ pos 11698 ∷ pos 14037 ∷ pos 16377 ∷ pos 18717 ∷ pos 21056 ∷ pos 23396 ∷ []

-- -14 dB, four times, Q10 (Table 9)
unfoldable pub gain_predictor_initial_memory : List ℤ
gain_predictor_initial_memory = replicate 4 (neg_ℤ (pos (14 * 1024)))
