-- The numbers of the types of statistics that have names. Nothing here takes an input apart.
use Rattle.std.specs.Prelude.{ℕ, List, [], ◌∷◌}
use Rattle.wire.specs.Arms.{arm_of}
use Rattle.stats_type.specs.declared.StatType.{StatType}
use Rattle.stats_type.specs.declared.StatType.TheVariants.{PrefixesRejectedByInboundPolicy, DuplicatePrefixAdvertisements, DuplicateWithdrawnPrefixes, UpdatesInvalidatedDueToClusterListLoop, UpdatesInvalidatedDueToASPathLoop, UpdatesInvalidatedDueToOriginatorId, UpdatesInvalidatedDueToASConfedLoop, RoutesInAdjRibsIn, RoutesInLocRib, RoutesInPerAfiSafiAdjRibIn, RoutesInPerAfiSafiLocRib, UpdatesSubjectedToTreatAsWithdraw, PrefixesSubjectedToTreatAsWithdraw, DuplicateUpdateMessagesReceived, RoutesInPrePolicyAdjRibOut, RoutesInPostPolicyAdjRibOut, RoutesInPerAfiSafiPrePolicyAdjRibOut, RoutesInPerAfiSafiPostPolicyAdjRibOut, RoutesInPrePolicyAdjRibIn, RoutesInPerAfiSafiPrePolicyAdjRibIn, RoutesInPostPolicyAdjRibIn, RoutesInPerAfiSafiPostPolicyAdjRibIn, RoutesInPerAfiSafiPrePolicyAdjRibInRejectedByPolicy, RoutesInPerAfiSafiPostPolicyAdjRibInAcceptedByPolicy, RoutesInPerAfiSafiPostPolicyAdjRibInOrLocRibSuppressed, RoutesInPerAfiSafiPostPolicyAdjRibInOrLocRibStaleByGracefulRestart, RoutesInPerAfiSafiPostPolicyAdjRibInOrLocRibStaleByLongLivedGracefulRestart, RoutesInPostPolicyAdjRibInLeftBeforeThreshold, RoutesInPerAfiSafiPostPolicyAdjRibInLeftBeforeThreshold, RoutesInPostPolicyAdjRibInOrLocRibLeftBeforeLicenseThreshold, RoutesInPerAfiSafiPostPolicyAdjRibInOrLocRibLeftBeforeLicenseThreshold, RoutesInPrePolicyAdjRibInRejectedDueToMaxAsPathLength, RoutesInPerAfiSafiPrePolicyAdjRibInRejectedDueToMaxAsPathLength, RoutesInPerAfiSafiPostPolicyAdjRibInInvalidatedByRoa, RoutesInPerAfiSafiPostPolicyAdjRibInValidatedByRoa, RoutesInPerAfiSafiPostPolicyAdjRibInRpkiStateNotFound, RoutesInPerAfiSafiPrePolicyAdjRibOutRejectedByPolicy, RoutesInPrePolicyAdjRibOutFilteredDueToMaxAsPathLength, RoutesInPerAfiSafiPrePolicyAdjRibOutFilteredDueToMaxAsPathLength, RoutesInPerAfiSafiPostPolicyAdjRibOutInvalidatedByRoa, RoutesInPerAfiSafiPostPolicyAdjRibOutValidatedByRoa, RoutesInPerAfiSafiPostPolicyAdjRibOutRpkiStateNotFound, Other}

-- Types 0 to 23 and 26 to 43 have names: 0 to 13 by RFC 7854, section 4.8, 14 to 17 by RFC 8671, section 6.2, and those from 18 on by IANA's
-- registry of BMP statistics types, as the Rust has them.
unfoldable pub names : List (ℕ × StatType)
names =
    (0, PrefixesRejectedByInboundPolicy)
    ∷ (1, DuplicatePrefixAdvertisements)
    ∷ (2, DuplicateWithdrawnPrefixes)
    ∷ (3, UpdatesInvalidatedDueToClusterListLoop)
    ∷ (4, UpdatesInvalidatedDueToASPathLoop)
    ∷ (5, UpdatesInvalidatedDueToOriginatorId)
    ∷ (6, UpdatesInvalidatedDueToASConfedLoop)
    ∷ (7, RoutesInAdjRibsIn)
    ∷ (8, RoutesInLocRib)
    ∷ (9, RoutesInPerAfiSafiAdjRibIn)
    ∷ (10, RoutesInPerAfiSafiLocRib)
    ∷ (11, UpdatesSubjectedToTreatAsWithdraw)
    ∷ (12, PrefixesSubjectedToTreatAsWithdraw)
    ∷ (13, DuplicateUpdateMessagesReceived)
    ∷ (14, RoutesInPrePolicyAdjRibOut)
    ∷ (15, RoutesInPostPolicyAdjRibOut)
    ∷ (16, RoutesInPerAfiSafiPrePolicyAdjRibOut)
    ∷ (17, RoutesInPerAfiSafiPostPolicyAdjRibOut)
    ∷ (18, RoutesInPrePolicyAdjRibIn)
    ∷ (19, RoutesInPerAfiSafiPrePolicyAdjRibIn)
    ∷ (20, RoutesInPostPolicyAdjRibIn)
    ∷ (21, RoutesInPerAfiSafiPostPolicyAdjRibIn)
    ∷ (22, RoutesInPerAfiSafiPrePolicyAdjRibInRejectedByPolicy)
    ∷ (23, RoutesInPerAfiSafiPostPolicyAdjRibInAcceptedByPolicy)
    ∷ (26, RoutesInPerAfiSafiPostPolicyAdjRibInOrLocRibSuppressed)
    ∷ (27, RoutesInPerAfiSafiPostPolicyAdjRibInOrLocRibStaleByGracefulRestart)
    ∷ (28, RoutesInPerAfiSafiPostPolicyAdjRibInOrLocRibStaleByLongLivedGracefulRestart)
    ∷ (29, RoutesInPostPolicyAdjRibInLeftBeforeThreshold)
    ∷ (30, RoutesInPerAfiSafiPostPolicyAdjRibInLeftBeforeThreshold)
    ∷ (31, RoutesInPostPolicyAdjRibInOrLocRibLeftBeforeLicenseThreshold)
    ∷ (32, RoutesInPerAfiSafiPostPolicyAdjRibInOrLocRibLeftBeforeLicenseThreshold)
    ∷ (33, RoutesInPrePolicyAdjRibInRejectedDueToMaxAsPathLength)
    ∷ (34, RoutesInPerAfiSafiPrePolicyAdjRibInRejectedDueToMaxAsPathLength)
    ∷ (35, RoutesInPerAfiSafiPostPolicyAdjRibInInvalidatedByRoa)
    ∷ (36, RoutesInPerAfiSafiPostPolicyAdjRibInValidatedByRoa)
    ∷ (37, RoutesInPerAfiSafiPostPolicyAdjRibInRpkiStateNotFound)
    ∷ (38, RoutesInPerAfiSafiPrePolicyAdjRibOutRejectedByPolicy)
    ∷ (39, RoutesInPrePolicyAdjRibOutFilteredDueToMaxAsPathLength)
    ∷ (40, RoutesInPerAfiSafiPrePolicyAdjRibOutFilteredDueToMaxAsPathLength)
    ∷ (41, RoutesInPerAfiSafiPostPolicyAdjRibOutInvalidatedByRoa)
    ∷ (42, RoutesInPerAfiSafiPostPolicyAdjRibOutValidatedByRoa)
    ∷ (43, RoutesInPerAfiSafiPostPolicyAdjRibOutRpkiStateNotFound)
    ∷ []

unfoldable pub type_of : ℕ → StatType
type_of n = arm_of names n (Other n)

unfoldable pub kind_of : StatType → ℕ
kind_of PrefixesRejectedByInboundPolicy = 0
kind_of DuplicatePrefixAdvertisements = 1
kind_of DuplicateWithdrawnPrefixes = 2
kind_of UpdatesInvalidatedDueToClusterListLoop = 3
kind_of UpdatesInvalidatedDueToASPathLoop = 4
kind_of UpdatesInvalidatedDueToOriginatorId = 5
kind_of UpdatesInvalidatedDueToASConfedLoop = 6
kind_of RoutesInAdjRibsIn = 7
kind_of RoutesInLocRib = 8
kind_of RoutesInPerAfiSafiAdjRibIn = 9
kind_of RoutesInPerAfiSafiLocRib = 10
kind_of UpdatesSubjectedToTreatAsWithdraw = 11
kind_of PrefixesSubjectedToTreatAsWithdraw = 12
kind_of DuplicateUpdateMessagesReceived = 13
kind_of RoutesInPrePolicyAdjRibOut = 14
kind_of RoutesInPostPolicyAdjRibOut = 15
kind_of RoutesInPerAfiSafiPrePolicyAdjRibOut = 16
kind_of RoutesInPerAfiSafiPostPolicyAdjRibOut = 17
kind_of RoutesInPrePolicyAdjRibIn = 18
kind_of RoutesInPerAfiSafiPrePolicyAdjRibIn = 19
kind_of RoutesInPostPolicyAdjRibIn = 20
kind_of RoutesInPerAfiSafiPostPolicyAdjRibIn = 21
kind_of RoutesInPerAfiSafiPrePolicyAdjRibInRejectedByPolicy = 22
kind_of RoutesInPerAfiSafiPostPolicyAdjRibInAcceptedByPolicy = 23
kind_of RoutesInPerAfiSafiPostPolicyAdjRibInOrLocRibSuppressed = 26
kind_of RoutesInPerAfiSafiPostPolicyAdjRibInOrLocRibStaleByGracefulRestart = 27
kind_of RoutesInPerAfiSafiPostPolicyAdjRibInOrLocRibStaleByLongLivedGracefulRestart = 28
kind_of RoutesInPostPolicyAdjRibInLeftBeforeThreshold = 29
kind_of RoutesInPerAfiSafiPostPolicyAdjRibInLeftBeforeThreshold = 30
kind_of RoutesInPostPolicyAdjRibInOrLocRibLeftBeforeLicenseThreshold = 31
kind_of RoutesInPerAfiSafiPostPolicyAdjRibInOrLocRibLeftBeforeLicenseThreshold = 32
kind_of RoutesInPrePolicyAdjRibInRejectedDueToMaxAsPathLength = 33
kind_of RoutesInPerAfiSafiPrePolicyAdjRibInRejectedDueToMaxAsPathLength = 34
kind_of RoutesInPerAfiSafiPostPolicyAdjRibInInvalidatedByRoa = 35
kind_of RoutesInPerAfiSafiPostPolicyAdjRibInValidatedByRoa = 36
kind_of RoutesInPerAfiSafiPostPolicyAdjRibInRpkiStateNotFound = 37
kind_of RoutesInPerAfiSafiPrePolicyAdjRibOutRejectedByPolicy = 38
kind_of RoutesInPrePolicyAdjRibOutFilteredDueToMaxAsPathLength = 39
kind_of RoutesInPerAfiSafiPrePolicyAdjRibOutFilteredDueToMaxAsPathLength = 40
kind_of RoutesInPerAfiSafiPostPolicyAdjRibOutInvalidatedByRoa = 41
kind_of RoutesInPerAfiSafiPostPolicyAdjRibOutValidatedByRoa = 42
kind_of RoutesInPerAfiSafiPostPolicyAdjRibOutRpkiStateNotFound = 43
kind_of (Other n) = n
