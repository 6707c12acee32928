mod Followings
